-- What one record more of a list shows comes after what was shown, at steps that were not done before.
use Rattle.std.proofs.Common.{◌≡◌, ℕ, zero, suc, ◌-◌, ◌≤◌, Bool, true, false, cond, List, [], ◌∷◌, ◌++◌, reverse, Option, None, Some, refl, sym, ap, ◌∙◌, subst, arith, append-nil, append_assoc}
use Rattle.list_laws.proofs.AllLaws.{all_append, all_through}
use Rattle.list_laws.proofs.ReverseLaws.{reverse-last}
use Rattle.run_events.specs.declared.event.Event.{Event}
use Rattle.run_events.specs.declared.fault.Diverged.{Diverged}
use Rattle.run_events.specs.declared.fault.Why.TheVariants.{StepFalls}
use Rattle.run_events.specs.declared.record.Record.{Record}
use Rattle.run_events.specs.declared.record.Record.TheVariants.{Load, Lines, Dma, Reach, End}
use Rattle.run_events.specs.declared.supply.DmaWord.{DmaWord}
use Rattle.run_events.specs.Event.{step_of}
use Rattle.run_events.specs.Record.{number, is_admitted}
use Rattle.analysis_model.proofs.LookLaws.{EachEvent}
use Rattle.any_machine.specs.Machine.{Machine, CountsSteps}
use Rattle.any_machine.specs.Run.{events_of}
use Rattle.any_machine.specs.Tape.{tape_of}
use Rattle.any_machine.specs.Replay.{Outcome, fault_at, outcome, shown_by, executed, shown}
use Rattle.any_machine.specs.Held.{Held, held_first, held_event, held_next, held_with, may_step, run_held, run_shown, word_shown, kept_or_with, held_fault, held_at, held_take, take_shown}
use Rattle.any_machine.specs.Carries.{Carries}
use Rattle.any_machine.proofs.CarriesLaws.{take_is, still, fed_nothing}
use Rattle.any_machine.proofs.OutcomeLaws.{outcome-nil}
use Rattle.any_machine.proofs.TapeLaws.{turns_below-zero}

-- a step from one number to another
abbrev pub IsFrom : ℕ → ℕ → ℕ → Type 0
IsFrom low high step = (low ≤ step) × (step ≤ high)

from_wider : (low low' high high' : ℕ) (events : List Event) → low' ≤ low → high ≤ high' → EachEvent (IsFrom low high) events → EachEvent (IsFrom low' high') events
from_wider low low' high high' events down up each = all_through (λ event is. (omega (arith, is.0, down), omega (arith, is.1, up))) events each

module _ {S : Type 0} (m : Machine S) (done : S → ℕ) (counts : CountsSteps m done) where
  -- what is held counts the steps of its state
  abbrev IsCounted : Held S → Type 0
  IsCounted h = done h.state ≡ h.step

  -- it goes on, and shows these
  record Goes (h h' : Held S) (events : List Event) : Type 0 where
    counted : IsCounted h'
    rises : h.step ≤ h'.step
    stand : EachEvent (IsFrom h.step h'.step) events

  goes_not : (h : Held S) → IsCounted h → Goes h h []
  goes_not h is = record { counted = is; rises = omega arith; stand = tt }

  goes_then : (h h' h'' : Held S) (xs ys : List Event) → Goes h h' xs → Goes h' h'' ys → Goes h h'' (xs ++ ys)
  goes_then h h' h'' xs ys first then = record {
    counted = then.counted;
    rises = omega (arith, first.rises, then.rises);
    stand =
        all_append (λ event. IsFrom h.step h''.step (step_of event)) xs ys (from_wider h.step h.step h'.step h''.step xs (omega arith) then.rises first.stand)
        (from_wider h'.step h.step h''.step h''.step ys first.rises (omega arith) then.stand);
  }

  goes_step : (h : Held S) → IsCounted h → Goes h (held_next m h) (held_event m h ∷ [])
  goes_step h is =
      let told = counts.step_told h.state h.lines h.load in
      record { counted = counts.stepped h.state h.lines h.load ∙ ap suc is; rises = omega arith; stand = ((omega (arith, told, is), omega (arith, told, is)), tt) }

  goes_steps : (left : ℕ) (h : Held S) → IsCounted h → Goes h (run_held m left h) (run_shown m left h)
  unfolding run_held run_shown
  goes_steps zero h is = goes_not h is
  goes_steps (suc left) h is = by (may_step m h) (goes_steps left (held_next m h) (goes_step h is).counted)
    where
      by : (b : Bool) → Goes (held_next m h) (run_held m left (held_next m h)) (run_shown m left (held_next m h)) → Goes h (cond b (run_held m left (held_next m h)) h) (cond b (held_event m h ∷ run_shown m left (held_next m h)) [])
      by true rest = goes_then h (held_next m h) (run_held m left (held_next m h)) (held_event m h ∷ []) (run_shown m left (held_next m h)) (goes_step h is) rest
      by false rest = goes_not h is

  goes_with : (item : Record) (h : Held S) → IsCounted h → Goes h (held_with m item h) (word_shown m item h)
  goes_with (Dma n address word mark) h is =
      let written : DmaWord = record { address = address; word = word; mark = mark } in
      let told : step_of (m.touch h.state written).0 ≡ done h.state = ap step_of (counts.word_told h.state written) in
      record { counted = counts.touched_not h.state written ∙ is; rises = omega arith; stand = ((omega (arith, told, is), omega (arith, told, is)), tt) }
  goes_with (Lines n bits) h is = record { counted = is; rises = omega arith; stand = tt }
  goes_with (Load n value mark) h is = record { counted = is; rises = omega arith; stand = tt }
  goes_with (Reach n) h is = goes_not h is
  goes_with (End n cause) h is = goes_not h is

  module _ (start : S) (first : done start ≡ 0) where
    goes_take : (before : List Record) (item : Record) (h : Held S) → IsCounted h → Goes h (held_take m start before item h).1 (take_shown m start before item h)
    goes_take before item h is = by_order (is_admitted before item)
      where
        on : Goes h (held_at m start item h) (run_shown m (number item - h.step) h)
        on = goes_steps (number item - h.step) h is

        by_fault : (fault : Option Diverged) → Goes (held_at m start item h) (kept_or_with fault (held_at m start item h) (held_with m item (held_at m start item h))).1 (kept_or_with fault [] (word_shown m item (held_at m start item h))).1
        by_fault (Some fault) = goes_not (held_at m start item h) on.counted
        by_fault None = goes_with item (held_at m start item h) on.counted

        by_order : (b : Bool) → Goes h (cond b (kept_or_with (held_fault m start item (held_at m start item h)) (held_at m start item h) (held_with m item (held_at m start item h))) (Some (fault_at (number item) StepFalls), h)).1 (cond b (run_shown m (number item - h.step) h ++ (kept_or_with (held_fault m start item (held_at m start item h)) [] (word_shown m item (held_at m start item h))).1) [])
        by_order true = goes_then h (held_at m start item h) _ (run_shown m (number item - h.step) h) _ on (by_fault (held_fault m start item (held_at m start item h)))
        by_order false = goes_not h is

    -- a replay that was fed a list carries it along
    record Carried (before : List Record) : Type 0 where
      held : Held S
      carries : Carries m start (outcome m start before) held
      counted : IsCounted held

    carried : (before : List Record) → Carried before
    carried [] = record { held = held_first start; carries = fed_nothing m start; counted = first }
    carried (item ∷ before) = by (carried before) (outcome m start before).fault refl
      where
        by : (c : Carried before) (fault : Option Diverged) → (outcome m start before).fault ≡ fault → Carried (item ∷ before)
        by c (Some fault) is = record { held = c.held; carries = subst (λ o. Carries m start o c.held) (sym (still m start before item fault is)) c.carries; counted = c.counted }
        by c None is = record {
          held = (held_take m start before item c.held).1;
          carries = (take_is m start before item c.held is c.carries).carries;
          counted = (goes_take before item c.held c.counted).counted;
        }

    -- one record more, after those before it, of which the last is given first
    pub record GoesOn (before : List Record) (item : Record) : Type 0 where
      pub later : List Event
      pub joined : shown_by m start (outcome m start (item ∷ before)) ≡ shown_by m start (outcome m start before) ++ later
      pub rises : (outcome m start before).done ≤ (outcome m start (item ∷ before)).done
      pub stand : EachEvent (IsFrom (outcome m start before).done (outcome m start (item ∷ before)).done) later

    pub goes_on : (before : List Record) (item : Record) → GoesOn before item
    goes_on before item = by (outcome m start before).fault refl
      where
        by : (fault : Option Diverged) → (outcome m start before).fault ≡ fault → GoesOn before item
        by (Some fault) is =
            let same = still m start before item fault is in
            record { later = []; joined = ap (shown_by m start) same ∙ sym (append-nil _); rises = omega (arith, ap (λ (o : Outcome). o.done) same); stand = tt }
        by None is =
            let c = carried before in
            let takes = take_is m start before item c.held is c.carries in
            let goes = goes_take before item c.held c.counted in
            record {
              later = take_shown m start before item c.held;
              joined = takes.shown;
              rises = omega (arith, goes.rises, c.carries.done, takes.carries.done);
              stand = from_wider _ _ _ _ _ (omega (arith, c.carries.done)) (omega (arith, takes.carries.done)) goes.stand;
            }

    -- and of lists in order: so many records more
    pub record ShowsOn (items more : List Record) : Type 0 where
      pub later : List Event
      pub joined : shown m start (items ++ more) ≡ shown m start items ++ later
      pub rises : executed m start items ≤ executed m start (items ++ more)
      pub stand : EachEvent (IsFrom (executed m start items) (executed m start (items ++ more))) later

    pub shows_one : (items : List Record) (item : Record) → ShowsOn items (item ∷ [])
    shows_one items item =
        let on = goes_on (reverse items) item in
        let last = sym (reverse-last items item) in
        record {
          later = on.later;
          joined = ap (λ l. shown_by m start (outcome m start l)) (sym last) ∙ on.joined;
          rises = omega (arith, on.rises, ap (λ l. (outcome m start l).done) last);
          stand = subst (λ l. EachEvent (IsFrom (executed m start items) (outcome m start l).done) on.later) last on.stand;
        }

    pub shows_on : (more items : List Record) → ShowsOn items more
    shows_on [] items = record { later = []; joined = ap (shown m start) (append-nil items) ∙ sym (append-nil (shown m start items)); rises = omega (arith, ap (executed m start) (append-nil items)); stand = tt }
    shows_on (item ∷ more) items =
        let one = shows_one items item in
        let rest = shows_on more (items ++ item ∷ []) in
        let same = append_assoc items (item ∷ []) more in
        let ends = ap (executed m start) same in
        record {
          later = one.later ++ rest.later;
          joined = ap (shown m start) (sym same) ∙ rest.joined ∙ ap (λ l. l ++ rest.later) one.joined ∙ append_assoc (shown m start items) one.later rest.later;
          rises = omega (arith, one.rises, rest.rises, ends);
          stand =
              all_append (λ event. IsFrom (executed m start items) (executed m start (items ++ item ∷ more)) (step_of event)) one.later rest.later
              (from_wider _ _ _ _ one.later (omega arith) (omega (arith, rest.rises, ends)) one.stand) (from_wider _ _ _ _ rest.later one.rises (omega (arith, ends)) rest.stand);
        }

    -- before the first record nothing is shown or executed
    pub shown_none : shown m start [] ≡ []
    shown_none = ap (shown_by m start) (outcome-nil m start) ∙ ap (λ turns. events_of turns ++ []) (turns_below-zero m start (tape_of []))

    pub executed_none : executed m start [] ≡ 0
    executed_none = ap (λ (o : Outcome). o.done) (outcome-nil m start)

    -- what is shown stands at the steps that are executed, and words at the step that follows
    pub shown_within : (items : List Record) → EachEvent (λ step. step ≤ executed m start items) (shown m start items)
    shown_within items =
        let on = shows_on items [] in
        subst (EachEvent (λ step. step ≤ executed m start items)) (sym (on.joined ∙ ap (λ l. l ++ on.later) shown_none)) (all_through (λ event is. is.1) on.later on.stand)
