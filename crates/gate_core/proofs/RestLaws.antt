-- A core whose events change nothing more is finished.
use Rattle.std.proofs.Common.{◌≡◌, ℕ, ◌+◌, ◌≤◌, ◌<◌, inl, inr, Bool, true, false, length, min, slice_index, slice_set, arith, refl, sym, ap, subst, ◌∙◌}
use Rattle.std.proofs.lemmas.List.{get_or-set_same, take_all}
use Rattle.std.proofs.lemmas.Bool.{cases_lt}
use Rattle.run_events.specs.Record.{reach}
use Rattle.gate_core.specs.Core.{Plan, CoreState, Append, Close, TakeNext, Post, Release, reached, IsPlan, IsRequired, IsReleasable, MayAppend, approves, IsSound, IsFinished, IsAtRest, RestsFinished}

module _ (plan : Plan) (is_plan : IsPlan plan) (some : 1 ≤ plan.cap) (s : CoreState) (sound : IsSound plan s) (fine : s.failed ≡ false) (rest : IsAtRest plan s) where
  -- a reader that has a record still to take could take it
  taken : (reader : ℕ) → reader < length plan.limits → slice_index s.taken reader ≡ s.appended
  taken reader low =
      elim (cases_lt (slice_index s.taken reader) s.appended) as (λ _. slice_index s.taken reader ≡ s.appended) [
        | inl behind ↦
            let more : ℕ = slice_index s.taken reader + 1 in
            let same : slice_set s.taken reader more ≡ s.taken = ap (λ (t : CoreState). t.taken) (rest (TakeNext reader) (low, behind)) in
            let moved : slice_index (slice_set s.taken reader more) reader ≡ more = get_or-set_same s.taken reader more 0 (omega (arith, low, sound.taken)) in
            absurd (omega (arith, moved, ap (λ l. slice_index l reader) same))
        | inr level ↦ omega (arith, level, (sound.readers reader low).taken)
      ]

  -- a record that is still to be appended could be
  none_left : s.closed ≡ false → s.appended < length plan.items → ⊥
  none_left opened more =
      let may : MayAppend plan s = record { «open» = opened; sound = fine; more = more; room = λ reader low. omega (arith, some, taken reader low) } in
      let same : s.appended + 1 ≡ s.appended = ap (λ (t : CoreState). t.appended) (rest Append may) in
      omega (arith, same)

  appended : s.appended ≡ length plan.items
  appended = by_closed s.closed refl
    where
      by_closed : (b : Bool) → s.closed ≡ b → s.appended ≡ length plan.items
      by_closed true ended =
          elim (sound.closed ended) as (λ _. s.appended ≡ length plan.items) [
            | inl all ↦ all
            | inr bad ↦ let both : false ≡ true = sym fine ∙ bad in grind arith
          ]
      by_closed false opened =
          elim (cases_lt s.appended (length plan.items)) as (λ _. s.appended ≡ length plan.items) [
            | inl more ↦ absurd (none_left opened more)
            | inr level ↦ omega (arith, level, sound.appended)
          ]

  closed : s.closed ≡ true
  closed = by_closed s.closed refl
    where
      by_closed : (b : Bool) → s.closed ≡ b → s.closed ≡ true
      by_closed true ended = ended
      by_closed false opened = sym (ap (λ (t : CoreState). t.closed) (rest Close (opened, inl appended)))

  -- a replica that may approve more could post it
  approved : (reader : ℕ) → IsRequired plan reader → slice_index s.approved reader ≡ min (slice_index plan.limits reader) (reach plan.items)
  approved reader required =
      let low : reader < length plan.limits = subst (λ r. r < length plan.limits) required.2 (is_plan.required required.0 required.1) in
      let step : ℕ = approves plan s reader in
      let same : slice_set s.approved reader step ≡ s.approved = ap (λ (t : CoreState). t.approved) (rest (Post reader) low) in
      let posted : slice_index (slice_set s.approved reader step) reader ≡ step = get_or-set_same s.approved reader step 0 (omega (arith, low, sound.approved)) in
      let all : reached plan (slice_index s.taken reader) ≡ reach plan.items = ap (reached plan) (taken reader low ∙ appended) ∙ ap reach (take_all (length plan.items) plan.items (omega arith)) in
      sym (ap (λ l. slice_index l reader) same) ∙ posted ∙ ap (min (slice_index plan.limits reader)) all

  none : (count : ℕ) → IsReleasable plan s count → ⊥
  none count may =
      let same : s.released + count ≡ s.released = ap (λ (t : CoreState). t.released) (rest (Release count) may) in
      omega (arith, may.some, same)

  finished : IsFinished plan s
  finished = record { sound = fine; appended = appended; taken = taken; approved = approved; none = none }

pub rests_finished : RestsFinished
rests_finished plan is_plan some s sound fine rest = (finished plan is_plan some s sound fine rest, closed plan is_plan some s sound fine rest)
