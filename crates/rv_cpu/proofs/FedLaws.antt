-- A step that loads a device register: it stores nothing.
use Rattle.std.proofs.Common.{◌≡◌, ◌∙◌, ℕ, true, false, Option, None, Some, length, refl, sym, ap, subst}
use Rattle.std.specs.Prelude.{IfSome, is_some}
use Rattle.run_events.specs.Event.{byte_stored}
use Rattle.run_events.specs.declared.access.Access.TheVariants as access
use Rattle.run_events.specs.declared.event.Event.{Event}
use Rattle.run_events.specs.declared.event.Event.TheVariants.{Dma, Irq, Trap, Exec}
use Rattle.run_events.specs.declared.supply.Supplied.{Supplied}
use Rattle.any_machine.specs.Machine.{is_load}
use Rattle.hart_model.proofs.NeedLaws.{needs_told}
use Rattle.hart_model.specs.State.{State}
use Rattle.hart_model.specs.Step.{cpu, need_of, needs}
use Rattle.rv_cpu.specs.Sound.{IsSound}
use Rattle.rv_cpu.proofs.CpuLaws.{step_sized, step_sound}

loads_store : (event : Event) → is_load (need_of event) ≡ true → (place : ℕ) → byte_stored place event ≡ None
loads_store (Dma step address word mark) loads place = refl
loads_store (Irq step pc cause next) loads place = refl
loads_store (Trap step pc word cause value next) loads place = refl
loads_store (Exec step pc word next result access.Quiet told) loads place = refl
loads_store (Exec step pc word next result (access.Load address width value device mark) told) loads place = refl
loads_store (Exec step pc word next result (access.Store address width value device) told) loads place = cc
loads_store (Exec step pc word next result (access.Swap address old new) told) loads place = refl

pub fed_stores : (s : State) (lines : ℕ) (supplied : Option Supplied) → is_load (needs s lines) ≡ true → (place : ℕ) → byte_stored place (cpu s lines supplied).0 ≡ None
fed_stores s lines supplied loads place = loads_store (cpu s lines supplied).0 (ap is_load (needs_told s lines supplied) ∙ loads) place

-- whether it was done or not, what is so of each state of a hart is still so
module _ (s t : State) (lines : ℕ) (supplied : Supplied) where
  pub fed_sound : (result : Option Event) → IfSome result (λ event. cpu s lines (Some supplied) ≡ (event, t)) → (is_some result ≡ false → t ≡ s) → IsSound s → IsSound t
  fed_sound (Some event) step none sound = step_sound s t lines (Some supplied) event step sound
  fed_sound None step none sound = subst IsSound (sym (none refl)) sound

  pub fed_sized : (result : Option Event) → IfSome result (λ event. cpu s lines (Some supplied) ≡ (event, t)) → (is_some result ≡ false → t ≡ s) → length t.ram ≡ length s.ram
  fed_sized (Some event) step none = step_sized s t lines (Some supplied) event step
  fed_sized None step none = ap (λ (u : State). length u.ram) (none refl)
