-- The gate of a run, when bytes are issued to it.
use Rattle.memory_map.specs.declared.TheConstants.{MOST_STEPS}
use Rattle.std.proofs.Common.{◌≡◌, ℕ, zero, suc, ◌+◌, ◌-◌, ◌<◌, ◌≤◌, Bool, true, false, cond, List, [], ◌∷◌, ◌++◌, length, drop, Option, Some, None, refl, sym, ap, subst, ◌∙◌, arith, append-nil}
use Rattle.std.specs.Prelude.{nat_lt, nat_le, ◌&&◌, is_some, IfSome}
use Rattle.std.specs.Option.{option_map}
use Rattle.std.specs.List.{cons_option}
use Rattle.std.proofs.Math.Seq.{append_snoc}
use Rattle.std.proofs.lemmas.Bool.{eqb-false}
use Rattle.std.proofs.lemmas.List.{map-append, drop-append-le, length_push, length-drop}
use Rattle.std.proofs.lemmas.List.Elements.{All-append, All-weaker, All-nil, All-push, filter-append}
use Rattle.circular_buffer.proofs.Places.{cut_front}
use Rattle.run_events.specs.Record.{number}
use Rattle.run_events.specs.declared.record.Record.TheVariants.{Reach}
use Rattle.run_events.specs.declared.item.Item.{Item}
use Rattle.any_machine.specs.Log.{before_step, byte_of, SentByte, sent_at, steps_of, bytes_in}
use Rattle.gate_core.specs.Core.{CoreState, Append, core_after, reached}
use Rattle.output_gate.specs.declared.gate.TheConstants.{ROOM}
use Rattle.output_gate.specs.Gate.{GateState, Climbs, passed_after, is_full, is_withheld, with_issue}
use Rattle.turn_run.specs.Course.{Course, IsCourse, output_of, plan_of, end_of}
use Rattle.turn_run.specs.Gates.{Gates, issued_by, not_withheld, still_waiting, with_item, with_byte}
use Rattle.turn_run.proofs.ListLaws.{AllBelow, passed_after-le, passed_after-push}
use Rattle.turn_run.proofs.CourseLaws.{IsNext, issued_IsPrefix, next_item, reach_less}

-- what an issue comes to
module _ (g : GateState) (step byte : ℕ) (room : is_full g ≡ false) where
  waits : GateState
  waits = record g { steps = g.steps ++ step ∷ []; bytes = g.bytes ++ byte ∷ []; issued = g.issued + 1; next = step + 1 }

  drops : GateState
  drops = record g { issued = g.issued + 1; withheld = g.withheld + 1; next = step + 1 }

  issue_waits : is_withheld g.from step ≡ false → with_issue g step byte ≡ record g { steps = g.steps ++ step ∷ []; bytes = g.bytes ++ byte ∷ []; issued = g.issued + 1; next = step + 1 }
  unfolding waits drops
  issue_waits not = ap (λ b. cond b g (cond (is_withheld g.from step) drops waits)) room ∙ ap (λ b. cond b drops waits) not

  issue_drops : is_withheld g.from step ≡ true → with_issue g step byte ≡ record g { issued = g.issued + 1; withheld = g.withheld + 1; next = step + 1 }
  unfolding waits drops
  issue_drops is_so = ap (λ b. cond b g (cond (is_withheld g.from step) drops waits)) room ∙ ap (λ b. cond b drops waits) is_so

-- one byte more, that is withheld or not
below_one : (from : ℕ) (byte : SentByte) (b : Bool) → nat_le from byte.step ≡ b → before_step from (byte ∷ []) ≡ cond b [] (byte ∷ [])
below_one from byte true is = ap (λ b. cond b (byte ∷ []) []) (let not : nat_lt byte.step from ≡ false = grind (arith, is) in not)
below_one from byte false is = ap (λ b. cond b (byte ∷ []) []) (let is_so : nat_lt byte.step from ≡ true = grind (arith, is) in is_so)

not_withheld-more : (from : Option ℕ) (sent : List SentByte) (byte : SentByte) (b : Bool) → is_withheld from byte.step ≡ b → not_withheld from (sent ++ byte ∷ []) ≡ not_withheld from sent ++ cond b [] (byte ∷ [])
not_withheld-more None sent byte b is = ap (λ b. sent ++ cond b [] (byte ∷ [])) is
not_withheld-more (Some from) sent byte b is = filter-append (λ (byte : SentByte). nat_lt byte.step from) sent (byte ∷ []) ∙ ap (λ l. before_step from sent ++ l) (below_one from byte b is)

module _ (c : Course) (core : CoreState) (gate : GateState) (g : Gates c core gate) where
  -- where no byte was issued, nothing has changed for the gate
  still : issued_by c (core.appended + 1) ≡ issued_by c core.appended → Gates c (core_after (plan_of c) core Append) gate
  still same = record {
    steps = g.steps ∙ ap (λ l. steps_of (drop core.released (not_withheld gate.from l))) (sym same);
    bytes = g.bytes ∙ ap (λ l. bytes_in (drop core.released (not_withheld gate.from l))) (sym same);
    issued = g.issued ∙ ap length (sym same);
    released = g.released;
    last = g.last ∙ ap (λ l. passed_after 0 (steps_of l)) (sym same);
    passed = g.passed;
    withheld = g.withheld;
    sound = g.sound;
    there = subst (λ l. core.released ≤ length (not_withheld gate.from l)) (sym same) g.there;
    few = g.few;
  }

  module _ (step byte : ℕ) (room : is_full gate ≡ false) (more : issued_by c (core.appended + 1) ≡ issued_by c core.appended ++ sent_at step byte ∷ []) where
    counted : length (issued_by c (core.appended + 1)) ≡ length (issued_by c core.appended) + 1
    counted = ap length more ∙ length_push (issued_by c core.appended) (sent_at step byte)

    last_is : passed_after 0 (steps_of (issued_by c (core.appended + 1))) ≡ step + 1
    last_is = ap (λ l. passed_after 0 (steps_of l)) more ∙ ap (passed_after 0) (map-append (λ (byte : SentByte). byte.step) (issued_by c core.appended) (sent_at step byte ∷ [])) ∙ passed_after-push (steps_of (issued_by c core.appended)) step 0

    kept_is : (b : Bool) → is_withheld gate.from step ≡ b → not_withheld gate.from (issued_by c (core.appended + 1)) ≡ not_withheld gate.from (issued_by c core.appended) ++ cond b [] (sent_at step byte ∷ [])
    kept_is b is = ap (not_withheld gate.from) more ∙ not_withheld-more gate.from (issued_by c core.appended) (sent_at step byte) b is

    waiting_is : is_withheld gate.from step ≡ false → drop core.released (not_withheld gate.from (issued_by c (core.appended + 1))) ≡ still_waiting c core gate.from ++ sent_at step byte ∷ []
    waiting_is not = ap (drop core.released) (kept_is false not) ∙ drop-append-le core.released (not_withheld gate.from (issued_by c core.appended)) (sent_at step byte ∷ []) g.there

    issued_by_case : (b : Bool) → is_withheld gate.from step ≡ b → Gates c (core_after (plan_of c) core Append) (with_issue gate step byte)
    issued_by_case false not = subst (Gates c (core_after (plan_of c) core Append)) (sym (issue_waits gate step byte room not)) (record {
      steps = ap (λ l. l ++ step ∷ []) g.steps ∙ sym (map-append (λ (byte : SentByte). byte.step) (still_waiting c core gate.from) (sent_at step byte ∷ [])) ∙ ap steps_of (sym (waiting_is not));
      bytes = ap (λ l. l ++ byte ∷ []) g.bytes ∙ sym (map-append (λ (byte : SentByte). byte.byte) (still_waiting c core gate.from) (sent_at step byte ∷ [])) ∙ ap bytes_in (sym (waiting_is not));
      issued = ap (λ n. n + 1) g.issued ∙ sym counted;
      released = g.released;
      last = sym last_is;
      passed = g.passed;
      withheld = g.withheld;
      sound = g.sound;
      there = omega (arith, ap length (kept_is false not), length_push (not_withheld gate.from (issued_by c core.appended)) (sent_at step byte), g.there);
      few = omega (arith, length_push gate.steps step, eqb-false (length gate.steps) ROOM room, g.few);
    })
    issued_by_case true is_so =
        let same : not_withheld gate.from (issued_by c (core.appended + 1)) ≡ not_withheld gate.from (issued_by c core.appended) = kept_is true is_so ∙ append-nil (not_withheld gate.from (issued_by c core.appended)) in
        subst (Gates c (core_after (plan_of c) core Append)) (sym (issue_drops gate step byte room is_so)) (record {
          steps = g.steps ∙ ap (λ l. steps_of (drop core.released l)) (sym same);
          bytes = g.bytes ∙ ap (λ l. bytes_in (drop core.released l)) (sym same);
          issued = ap (λ n. n + 1) g.issued ∙ sym counted;
          released = g.released;
          last = sym last_is;
          passed = g.passed;
          withheld = g.withheld;
          sound = g.sound;
          there = subst (λ l. core.released ≤ length l) (sym same) g.there;
          few = g.few;
        })

  -- the gate once the next item was appended and its byte issued
  item_by : (i : Item) (o : Option ℕ) → i.byte ≡ o → (is_some o && is_full gate) ≡ false → issued_by c (core.appended + 1) ≡ issued_by c core.appended ++ cons_option (option_map (sent_at (number i.item - 1)) o) []
      → Gates c (core_after (plan_of c) core Append) (with_byte gate (number i.item - 1) o)
  item_by i None is room more = still (more ∙ append-nil (issued_by c core.appended))
  item_by i (Some byte) is room more = issued_by_case (number i.item - 1) byte room more (is_withheld gate.from (number i.item - 1)) refl

  pub after_item : (i : Item) (rest : List Item) → IsNext c core.appended i rest → (is_some i.byte && is_full gate) ≡ false → Gates c (core_after (plan_of c) core Append) (with_item gate i)
  after_item i rest next room = item_by i i.byte refl room next.issued

  -- the next byte's step is after those that were issued before
  rises_by : (is : IsCourse c) (i : Item) (o : Option ℕ) → issued_by c (core.appended + 1) ≡ issued_by c core.appended ++ cons_option (option_map (sent_at (number i.item - 1)) o) [] → IfSome o (λ byte. gate.next ≤ number i.item - 1)
  rises_by is i None more = tt
  rises_by is i (Some byte) more =
      let sent = issued_by c core.appended in
      let step : ℕ = number i.item - 1 in
      let front = issued_IsPrefix c is (core.appended + 1) in
      let steps_are : steps_of (output_of c) ≡ steps_of sent ++ step ∷ steps_of front.rest =
      ap steps_of (sym front.joined)
      ∙ map-append (λ (byte : SentByte). byte.step) (issued_by c (core.appended + 1)) front.rest
      ∙ ap (λ l. l ++ steps_of front.rest) (ap steps_of more ∙ map-append (λ (byte : SentByte). byte.step) sent (sent_at step byte ∷ []))
      ∙ append_snoc (steps_of sent) step (steps_of front.rest) in
      let le : passed_after 0 (steps_of sent) ≤ step = passed_after-le (steps_of sent) step (steps_of front.rest) 0 (end_of c) (subst (λ l. Climbs 0 l (end_of c)) steps_are is.climbs) in
      omega (arith, le, g.last)

  pub rises_next : (is : IsCourse c) (i : Item) (rest : List Item) → IsNext c core.appended i rest → IfSome i.byte (λ byte. gate.next ≤ number i.item - 1)
  rises_next is i rest next = rises_by is i i.byte next.issued

-- each byte that was issued is of a step that the appended records reach
under_by : (low : ℕ) (item : ℕ) (o : Option ℕ) → item ≡ low → IfSome o (λ byte. 1 ≤ item) → AllBelow low (cons_option (option_map (sent_at (item - 1)) o) [])
under_by low item None is marked = All-nil (λ (byte : SentByte). byte.step < low)
under_by low item (Some byte) is marked = All-push (λ (byte : SentByte). byte.step < low) [] (sent_at (item - 1) byte) (All-nil (λ (byte : SentByte). byte.step < low)) (omega (arith, is, marked))

marked_number : (i : Item) (o : Option ℕ) → IfSome o (λ byte. (k : ℕ) × (i.item ≡ Reach (k + 1)) × (k < MOST_STEPS)) → IfSome o (λ byte. 1 ≤ number i.item)
marked_number i None marked = tt
marked_number i (Some byte) (k, is, less) = omega (arith, ap number is)

module _ (c : Course) (is : IsCourse c) where
  under_next : (a : ℕ) → AllBelow (reached (plan_of c) a) (issued_by c a) → (i : Item) (rest : List Item) → IsNext c a i rest → AllBelow (reached (plan_of c) (a + 1)) (issued_by c (a + 1))
  under_next a before i rest next =
      let low = reached (plan_of c) (a + 1) in
      let more = reach_less c is a (a + 1) (omega arith) in
      subst (AllBelow low) (sym next.issued)
      (All-append (λ (byte : SentByte). byte.step < low) (issued_by c a) (cons_option (byte_of i) [])
      (All-weaker (λ (byte : SentByte). byte.step < reached (plan_of c) a) (λ (byte : SentByte). byte.step < low) (λ byte less. omega (arith, less, more)) (issued_by c a) before)
      (under_by low (number i.item) i.byte (sym next.reaches) (marked_number i i.byte next.marked)))

  pub issued_under : (a : ℕ) → a ≤ length c.items → AllBelow (reached (plan_of c) a) (issued_by c a)
  issued_under zero le = All-nil (λ (byte : SentByte). byte.step < reached (plan_of c) 0)
  issued_under (suc a) le =
      let left = cut_front (drop a c.items) (omega (arith, le, length-drop a c.items)) in
      subst (λ n. AllBelow (reached (plan_of c) n) (issued_by c n)) (let e : a + 1 ≡ suc a = omega arith in e) (under_next a (issued_under a (omega (arith, le))) left.0 left.1 (next_item c is a left.0 left.1 left.2))
