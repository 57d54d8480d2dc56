use Rattle.std.proofs.Common.{rules, ◌≡◌, ◌<◌, ◌≤◌, true, nat_eq, length, slice_index, arith, sym}
use Rattle.std.proofs.lemmas.List.Sums.{position_or_len_is}
use Rattle.gate_core.proofs.hub.place_of.Goals as goal

pub returns-then-counts-place : goal.returns-then-counts-place
returns-then-counts-place c =
    let within : c.loop-place.place ≤ length c.args.counts.now = omega arith in
    let here : nat_eq (slice_index c.args.counts.now c.loop-place.place) c.args.number ≡ true = search rules in
    sym (position_or_len_is _ _ _ 0 within c.loop-place.invariant (λ low. here))

pub returns : goal.returns
returns c =
    let all : c.loop-place.place ≡ length c.args.counts.now = omega arith in
    let past : length c.args.counts.now < length c.args.counts.now → nat_eq (slice_index c.args.counts.now (length c.args.counts.now)) c.args.number ≡ true = λ low. absurd (omega arith) in
    sym (position_or_len_is _ _ _ 0 (omega arith) (λ k low. c.loop-place.invariant k (omega arith)) past)
