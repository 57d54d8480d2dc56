-- A run of a replay, step by step as a loop does it.
use Rattle.std.proofs.Common.{◌≡◌, ℕ, suc, ◌+◌, ◌<◌, not, List, [], ◌∷◌, ◌++◌, None, Some, refl, sym, ap, ◌∙◌, subst, append-nil, append_assoc}
use Rattle.std.specs.Prelude.{true, is_some}
use Rattle.run_events.specs.declared.event.Event.{Event}
use Rattle.run_events.specs.declared.supply.Need.{Need}
use Rattle.run_events.specs.declared.supply.Need.TheVariants.{Load, Nothing}
use Rattle.run_events.specs.declared.supply.Supplied.{Supplied}
use Rattle.any_machine.specs.Machine.{CountsSteps, Machine, is_load, power_status}
use Rattle.any_machine.specs.Replay.{load_fault}
use Rattle.any_machine.specs.Held.{Held, RunsTo, held_event, held_next, may_step, run_held}
use Rattle.any_machine.specs.Running.{IsFed, RunSoFar, fed, unfed}
use Rattle.any_machine.proofs.HeldRuns.{held_joins, held_more, runs_on}

module _ {S : Type 0} (m : Machine S) (number : ℕ) where
  pub loop_first : (first : Held S) (Seen : List Event → Type 0) → RunSoFar m number first first Seen Seen
  unfolding run_held
  loop_first first Seen = record { steps = 0; held = refl; events = []; goes = λ last rest runs. runs; seen = λ h was. subst Seen (sym (append-nil h)) was }

  pub loop_next : (first now next' : Held S) (event : Event) (Seen SeenNow SeenNext : List Event → Type 0) → RunSoFar m number first now Seen SeenNow → now.step < number → may_step m now ≡ true → next' ≡ held_next m now → event ≡ held_event m now
      → ((h : List Event) → SeenNow h → SeenNext (h ++ event ∷ [])) → RunSoFar m number first next' Seen SeenNext
  loop_next first now next' event Seen SeenNow SeenNext so_far lt may next_is event_is sees = record {
    steps = so_far.steps + 1;
    held = held_more m so_far.steps first now so_far.held may ∙ sym next_is;
    events = so_far.events ++ event ∷ [];
    goes =
        λ last rest runs.
        let on = runs_on m number now last rest lt may (subst (λ h. RunsTo m number h last rest) next_is runs) in
        subst (RunsTo m number first last) (ap (λ e. so_far.events ++ e ∷ rest) (sym event_is) ∙ sym (append_assoc so_far.events (event ∷ []) rest)) (so_far.goes last (held_event m now ∷ rest) on);
    seen = λ h was. subst SeenNext (append_assoc h so_far.events (event ∷ [])) (sees (h ++ so_far.events) (so_far.seen h was));
  }

  -- two parts of a run, one after the other
  pub loop_joins : (first middle now : Held S) (Seen SeenThen SeenNow : List Event → Type 0) → RunSoFar m number first middle Seen SeenThen → RunSoFar m number middle now SeenThen SeenNow → RunSoFar m number first now Seen SeenNow
  loop_joins first middle now Seen SeenThen SeenNow one two = record {
    steps = one.steps + two.steps;
    held = held_joins m one.steps two.steps first ∙ ap (run_held m two.steps) one.held ∙ two.held;
    events = one.events ++ two.events;
    goes = λ last rest runs. subst (RunsTo m number first last) (sym (append_assoc one.events two.events rest)) (one.goes last (two.events ++ rest) (two.goes last rest runs));
    seen = λ h was. subst SeenNow (append_assoc h one.events two.events) (two.seen (h ++ one.events) (one.seen h was));
  }

-- a step that needs nothing and stores no status at the power register, of a hart that is fed nothing
module _ {S : Type 0} (m : Machine S) (done : S → ℕ) (counts : CountsSteps m done) (lines : ℕ) (s s' : S) (event : Event) (is : m.step s lines None ≡ (event, s')) where
  unfed_event : event ≡ held_event m (unfed done lines s)
  unfed_event = ap (λ (x : Event × S). x.0) (sym is)

  unfed_next : power_status event ≡ None → unfed done lines s' ≡ held_next m (unfed done lines s)
  unfed_next runs =
      ap (λ (x : Event × S). unfed done lines x.1) (sym is)
      ∙ ap (λ k. record { state = (m.step s lines None).1; step = k; lines = lines; load = None; power = None }) (counts.stepped s lines None)
      ∙ ap (λ p. record { state = (m.step s lines None).1; step = suc (done s); lines = lines; load = None; power = p }) (sym runs ∙ ap (λ (x : Event × S). power_status x.0) (sym is))

  pub loop_fast : (number : ℕ) (first : Held S) (Seen SeenNow SeenNext : List Event → Type 0) → RunSoFar m number first (unfed done lines s) Seen SeenNow → done s < number → m.needs s lines ≡ Nothing → power_status event ≡ None
      → ((h : List Event) → SeenNow h → SeenNext (h ++ event ∷ [])) → RunSoFar m number first (unfed done lines s') Seen SeenNext
  loop_fast number first Seen SeenNow SeenNext so_far lt nothing runs sees =
      loop_next m number first (unfed done lines s) (unfed done lines s') event Seen SeenNow SeenNext so_far lt (ap (λ need. not (is_some (load_fault need None))) nothing) (unfed_next runs) unfed_event sees

-- a step that loads a device register and was fed
module _ {S : Type 0} (m : Machine S) (done : S → ℕ) (counts : CountsSteps m done) (lines : ℕ) (supplied : Supplied) (s s' : S) (Seen SeenNow : List Event → Type 0) (was : IsFed m lines supplied s s' Seen SeenNow) where
  ready : (need : Need) → is_load need ≡ true → not (is_some (load_fault need (Some supplied))) ≡ true
  ready (Load address width) loads = refl
  ready Nothing loads = cc

  fed_next : unfed done lines s' ≡ held_next m (fed done lines supplied s)
  fed_next =
      ap (unfed done lines) (sym was.state)
      ∙ ap (λ k. record { state = (m.step s lines (Some supplied)).1; step = k; lines = lines; load = None; power = None }) (counts.stepped s lines (Some supplied))
      ∙ ap (λ p. record { state = (m.step s lines (Some supplied)).1; step = suc (done s); lines = lines; load = None; power = p }) (sym was.runs)

  pub loop_fed : (number : ℕ) → done s < number → RunSoFar m number (fed done lines supplied s) (unfed done lines s') Seen SeenNow
  loop_fed number lt =
      loop_next m number (fed done lines supplied s) (fed done lines supplied s) (unfed done lines s') (held_event m (fed done lines supplied s)) Seen Seen SeenNow (loop_first m number (fed done lines supplied s) Seen) lt (ready (m.needs s lines) was.loads) fed_next refl was.seen
