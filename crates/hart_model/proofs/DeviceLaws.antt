-- A step accesses no device but at the address of a register.
use Rattle.std.proofs.Common.{◌≡◌, ℕ, true, false, length, Option, subst}
use Rattle.memory_map.specs.Device.{is_device}
use Rattle.run_events.specs.declared.access.Access.{Access}
use Rattle.run_events.specs.declared.access.Access.TheVariants.{Quiet, Load, Store, Swap}
use Rattle.run_events.specs.declared.event.Event.{Event}
use Rattle.run_events.specs.declared.event.Event.TheVariants.{Dma, Irq, Trap, Exec}
use Rattle.run_events.specs.declared.supply.Need.TheVariants as need
use Rattle.run_events.specs.declared.supply.Supplied.{Supplied}
use Rattle.hart_model.proofs.OutcomeLaws.{OutcomeKeeps, AccessInside, outcome_keeps}
use Rattle.hart_model.proofs.StepCases.{each_step}
use Rattle.hart_model.specs.Effect.{Outcome, Does, Raises}
use Rattle.hart_model.specs.State.{State}
use Rattle.hart_model.specs.Step.{cpu, needs, need_of, outcome, step_by}

-- an access of a device is at a register's address
abbrev pub AtRegister : Access → Type 0
AtRegister Quiet = Unit {0}
AtRegister (Load address width value true mark) = is_device address ≡ true
AtRegister (Load address width value false mark) = Unit {0}
AtRegister (Store address width value true) = is_device address ≡ true
AtRegister (Store address width value false) = Unit {0}
AtRegister (Swap address old new) = Unit {0}

abbrev pub IsAtRegister : Event → Type 0
IsAtRegister (Dma step address word mark) = Unit {0}
IsAtRegister (Irq step pc cause next) = Unit {0}
IsAtRegister (Trap step pc word cause value next) = Unit {0}
IsAtRegister (Exec step pc word next result access told) = AtRegister access

inside_at : (bytes : ℕ) (a : Access) → AccessInside bytes a → AtRegister a
inside_at bytes Quiet inside = tt
inside_at bytes (Load address width value true mark) inside = inside
inside_at bytes (Load address width value false mark) inside = tt
inside_at bytes (Store address width value true) inside = inside
inside_at bytes (Store address width value false) inside = tt
inside_at bytes (Swap address old new) inside = tt

keeps_at : (s : State) (size word : ℕ) (o : Outcome) → OutcomeKeeps s size o → IsAtRegister (step_by s word o).0
unfolding step_by
keeps_at s size word (Does e) keeps = inside_at (length s.ram) e.access keeps.data_inside
keeps_at s size word (Raises cause value) keeps = tt

pub cpu_at : (s : State) (lines : ℕ) (supplied : Option Supplied) → IsAtRegister (cpu s lines supplied).0
cpu_at s lines supplied =
    each_step (λ result. IsAtRegister result.0) s lines supplied (record {
      interrupt = λ cause is. tt;
      outside = λ address is. keeps_at s 0 0 (Raises 1 address) tt;
      illegal = λ f found is. keeps_at s 0 f.word (Raises 2 f.word) tt;
      instruction = λ f i found is. keeps_at s f.size f.word (outcome s lines supplied f.word f.size i) (outcome_keeps s f.size lines supplied f.word i);
    })

-- what a step has to be given is at a register's address
need_at_register : (event : Event) (address width : ℕ) → IsAtRegister event → need_of event ≡ need.Load address width → is_device address ≡ true
need_at_register (Dma step place word mark) address width at is = absurd (cc)
need_at_register (Irq step pc cause next) address width at is = absurd (cc)
need_at_register (Trap step pc word cause value next) address width at is = absurd (cc)
need_at_register (Exec step pc word next result Quiet told) address width at is = absurd (cc)
need_at_register (Exec step pc word next result (Load place size value true mark) told) address width at is = let same : place ≡ address = cc in subst (λ n. is_device n ≡ true) same at
need_at_register (Exec step pc word next result (Load place size value false mark) told) address width at is = absurd (cc)
need_at_register (Exec step pc word next result (Store place size value device) told) address width at is = absurd (cc)
need_at_register (Exec step pc word next result (Swap place old new) told) address width at is = absurd (cc)

pub needs_at : (s : State) (lines address width : ℕ) → needs s lines ≡ need.Load address width → is_device address ≡ true
needs_at s lines address width is = need_at_register _ address width (cpu_at s lines _) is
