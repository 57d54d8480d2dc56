-- What a plain step is: it needs nothing, and what it stores stands in RAM.
use Rattle.std.proofs.Common.{◌≡◌, ◌∙◌, ℕ, suc, ◌<◌, ◌≤◌, ◌==◌, ◌%◌, Bool, true, false, not, ◌&&◌, length, Option, None, Some, refl, ap, arith}
use Rattle.std.specs.Prelude.{is_none, if◌then◌else◌}
use Rattle.memory_map.specs.declared.TheConstants.{RAM_START}
use Rattle.run_events.specs.declared.access.Access.{Access}
use Rattle.run_events.specs.declared.access.Access.TheVariants.{Quiet, Load, Store, Swap}
use Rattle.run_events.specs.declared.event.Event.{Event}
use Rattle.run_events.specs.declared.supply.Need.TheVariants.{Nothing}
use Rattle.run_events.specs.Event.{byte_stored, byte_stored_at}
use Rattle.rv_csr.specs.Traps.{pending}
use Rattle.rv_decode.specs.declared.instruction.Instr.{Instr}
use Rattle.hart_model.proofs.OutcomeLaws.{AccessInside, OutcomeKeeps, outcome_keeps}
use Rattle.hart_model.specs.Effect.{Effect, Outcome, Does, Raises}
use Rattle.hart_model.specs.Fetch.{Fetch, Found, Outside, fetched}
use Rattle.hart_model.specs.Machine.{hart}
use Rattle.hart_model.specs.State.{State}
use Rattle.hart_model.specs.Step.{cpu, outcome, step_by, need_of, need_of_access, after_decode, after_fetch, unless_interrupted, executed_event, executed_state}
use Rattle.run_events.specs.Access.{is_of_device}
use Rattle.rv_cpu.specs.Plain.{is_plain, is_plain_decoded, is_plain_fetched, is_plain_instr, is_plain_outcome}
use Rattle.rv_cpu.specs.PlainRun.{are_plain, plain_next}

pub first_of_both : (a b : Bool) → (a && b) ≡ true → a ≡ true
first_of_both true b both = refl
first_of_both false b both = cc

pub second_of_both : (a b : Bool) → (a && b) ≡ true → b ≡ true
second_of_both true b both = both
second_of_both false b both = cc

-- an instruction is executed, whose access is of no device register and, if it has one, of RAM
pub record PlainStep (s : State) (result : Event × State) : Type 0 where
  pub word : ℕ
  pub effect : Effect
  pub other : is_of_device effect.access ≡ false
  pub inside : AccessInside (length s.ram) effect.access
  pub is : result ≡ (executed_event s word effect, executed_state s effect)

module _ (s : State) (lines : ℕ) where
  by_outcome : (word size : ℕ) (o : Outcome) → OutcomeKeeps s size o → is_plain_outcome o ≡ true → PlainStep s (step_by s word o)
  unfolding step_by
  by_outcome word size (Does e) keeps plain = record { word = word; effect = e; other = flip (is_of_device e.access) plain; inside = keeps.data_inside; is = refl }
    where
      flip : (b : Bool) → not b ≡ true → b ≡ false
      flip true is = cc
      flip false is = refl
  by_outcome word size (Raises cause value) keeps plain = absurd cc

  by_decode : (word size : ℕ) (i : Option Instr) → is_plain_decoded s lines word size i ≡ true → PlainStep s (after_decode s lines None word size i)
  by_decode word size None plain = absurd cc
  by_decode word size (Some i) plain = by_outcome word size (outcome s lines None word size i) (outcome_keeps s size lines None word i) (second_of_both (is_plain_instr i) _ plain)

  by_fetch : (fetch : Fetch) → is_plain_fetched s lines fetch ≡ true → PlainStep s (after_fetch s lines None fetch)
  by_fetch (Found f) plain = by_decode f.word f.size f.instr plain
  by_fetch (Outside address) plain = absurd cc

  by_pending : (cause : Option ℕ) → (is_none cause && is_plain_fetched s lines (fetched s.ram s.pc)) ≡ true → PlainStep s (unless_interrupted s lines None cause)
  by_pending (Some cause) plain = absurd cc
  by_pending None plain = by_fetch (fetched s.ram s.pc) plain

  pub plain_step : is_plain s lines ≡ true → PlainStep s (cpu s lines None)
  unfolding is_plain cpu
  plain_step plain = by_pending (pending s.csrs lines) plain

access_needs : (a : Access) → is_of_device a ≡ false → need_of_access a ≡ Nothing
access_needs Quiet other = refl
access_needs (Load address width value true mark) other = cc
access_needs (Load address width value false mark) other = refl
access_needs (Store address width value device) other = refl
access_needs (Swap address old new) other = refl

pub plain_needs : (s : State) (lines : ℕ) → is_plain s lines ≡ true → hart.needs s lines ≡ Nothing
unfolding hart
plain_needs s lines plain =
    let step = plain_step s lines plain in
    ap (λ (x : Event × State). need_of x.0) step.is ∙ access_needs step.effect.access step.other

-- so it stores no byte at an address below RAM, where all device registers are
access_stores : (bytes place : ℕ) (a : Access) → place < RAM_START → is_of_device a ≡ false → AccessInside bytes a → byte_stored_at place a ≡ None
access_stores bytes place Quiet below other inside = refl
access_stores bytes place (Load address width value device mark) below other inside = refl
access_stores bytes place (Store address width value true) below other inside = cc
access_stores bytes place (Store address width value false) below other inside = ap (λ b. if b then Some (value % 256) else None) (apart address place inside.within.from below)
  where
    apart : (a b : ℕ) → RAM_START ≤ a → b < RAM_START → (a == b) ≡ false
    apart a b from below = grind (arith, from, below)
access_stores bytes place (Swap address old new) below other inside = refl

pub plain_stores : (s : State) (lines place : ℕ) → is_plain s lines ≡ true → place < RAM_START → byte_stored place (cpu s lines None).0 ≡ None
plain_stores s lines place plain below =
    let step = plain_step s lines plain in
    ap (λ (x : Event × State). byte_stored place x.0) step.is ∙ access_stores (length s.ram) place step.effect.access below step.other step.inside

-- of several plain steps the first is one, and so are the others after it
pub plain_first : (lines count : ℕ) (s : State) → are_plain lines (suc count) s ≡ true → is_plain s lines ≡ true
unfolding are_plain
plain_first lines count s plain = first_of_both (is_plain s lines) _ plain

pub plain_others : (lines count : ℕ) (s : State) → are_plain lines (suc count) s ≡ true → are_plain lines count (plain_next lines s) ≡ true
unfolding are_plain
plain_others lines count s plain = second_of_both (is_plain s lines) _ plain
