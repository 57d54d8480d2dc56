-- How followers read a log to its close.
use Rattle.std.proofs.Common.{◌≡◌, inl, inr, ℕ, ◌+◌, ◌<◌, Bool, true, false, length, refl, sym, ap, subst, ◌∙◌, arith}
use Rattle.std.specs.Prelude.{nat_eq, slice_index, take}
use Rattle.std.proofs.lemmas.Bool.{cases_lt, eqb-true, eqb-false}
use Rattle.std.proofs.lemmas.List.{get_or-set_other}
use Rattle.gate_core.specs.Core.{CoreState}
use Rattle.any_machine.specs.Recording.{Recording}
use Rattle.turn_run.specs.declared.parts.Parts.{Parts}
use Rattle.turn_run.specs.Following.{Following}
use Rattle.turn_run.specs.Course.{Course, log_of}
use Rattle.turn_run.specs.Closings.{IsStopped}
use Rattle.turn_run.specs.Endings.{end_in}
use Rattle.turn_run.specs.Gates.{issued_by}
use Rattle.turn_run.specs.Periods.{HasRead, HasReadAll, HasReadSome, HasReadUp}
use Rattle.turn_run.specs.Replicas.{Follows, core_after_read}
use Rattle.turn_run.specs.Runs.{IsBesides, IsBroken, IsFollowed}
use Rattle.turn_run.proofs.EndLaws.{within_released}

-- all but the log and the followers is as before, after two calls
pub besides-then : {M F : Type 0} (a b c : Parts M F) → IsBesides a b → IsBesides b c → IsBesides a c
besides-then a b c first second = record {
  source = second.source ∙ first.source;
  required = second.required ∙ first.required;
  gate = second.gate ∙ first.gate;
  end = second.end ∙ first.end;
}

-- a follower that has taken all of the log stays where another one takes a record
others_stay : (c : Course) (now : CoreState) (reader : ℕ) → slice_index now.taken reader < now.appended → (other : ℕ) → slice_index now.taken other ≡ now.appended → slice_index (core_after_read c now reader).taken other ≡ now.appended
others_stay c now reader less other all = by (nat_eq other reader) refl
  where
    by : (b : Bool) → nat_eq other reader ≡ b → slice_index (core_after_read c now reader).taken other ≡ now.appended
    by true is = absurd (omega (arith, less, all, ap (slice_index now.taken) (eqb-true other reader is)))
    by false is = get_or-set_other now.taken reader other (slice_index now.taken reader + 1) 0 (eqb-false other reader is) ∙ all

module _ {M F : Type 0} (f : Following F) (c : Course) (core : CoreState) where
  -- one record more
  pub read_on : (mid after : Parts M F) (reader : ℕ) (has : HasRead f c core mid) → (slice_index has.next.taken reader < has.next.appended) × IsFollowed f c (core_after_read c has.next reader) after → HasRead f c core after
  read_on mid after reader has took = record {
    next = core_after_read c has.next reader;
    follows = took.1;
    same = record { appended = has.same.appended; closed = has.same.closed; failed = has.same.failed; released = has.same.released };
    others = λ other all. others_stay c has.next reader took.0 other (has.others other all);
  }

  -- none is left for it
  pub read_end : (mid after : Parts M F) (reader : ℕ) (has : HasRead f c core mid) → slice_index has.next.taken reader ≡ has.next.appended → (after.hub ≡ mid.hub) × (after.followers.items ≡ mid.followers.items) → HasReadUp f c core reader after
  read_end mid after reader has all same = record {
    on = record {
      next = has.next;
      follows = subst (λ h. Follows f c has.next h after.followers.items) (sym same.0) (subst (Follows f c has.next mid.hub) (sym same.1) has.follows);
      same = has.same;
      others = has.others;
    };
    all = all;
  }

  -- one follower more has taken all
  pub read_more : (count : ℕ) (mid after : Parts M F) (has : HasReadSome f c core count mid) → HasReadUp f c has.on.next count after → HasReadSome f c core (count + 1) after
  read_more count mid after has up = record {
    on = record {
      next = up.on.next;
      follows = up.on.follows;
      same = record {
        appended = up.on.same.appended ∙ has.on.same.appended;
        closed = up.on.same.closed ∙ has.on.same.closed;
        failed = up.on.same.failed ∙ has.on.same.failed;
        released = up.on.same.released ∙ has.on.same.released;
      };
      others = λ other all. up.on.others other (has.on.others other all);
    };
    all = λ reader less. elim (cases_lt reader count) [
      | inl before ↦ up.on.others reader (has.all reader before)
      | inr here ↦ (let same : reader ≡ count = omega (arith, less, here) in ap (slice_index up.on.next.taken) same ∙ up.all)
    ];
  }

module _ {M F : Type 0} (r : Recording M) (f : Following F) (c : Course) (core : CoreState) where
  -- a run whose put has failed, and whose log was closed and read to the close
  pub stops : (closed : Parts M F) (after : Parts M F) → IsBroken r f c (record core { closed = true }) closed → HasReadAll f c (record core { closed = true }) after → IsBesides closed after
      → IsStopped r f c core.appended core.released after
  stops closed after broken has besides =
      let same = has.on.same in
      record {
        core = has.on.next;
        broken = record {
          follows = has.on.follows;
          end = besides.end ∙ broken.end ∙ ap (λ n. end_in (take n (log_of c))) (sym same.appended);
          issued = (λ i. (besides.gate i).issued) ∙ broken.issued ∙ ap (λ n. length (issued_by c n)) (sym same.appended);
          released = (
              let counted : after.gate.released ≡ closed.gate.released = λ i. (besides.gate i).released in
              omega (arith, counted, broken.released, same.released));
          there = omega (arith, broken.there, same.released, ap (λ n. length (issued_by c n)) same.appended);
          failed = same.failed ∙ broken.failed;
        };
        closed = same.closed;
        appended = same.appended;
        taken = has.all;
        released = same.released;
        within = within_released c broken.follows.course (record core { closed = true }) broken.follows.sound broken.there;
      }
