-- What a step that was done, or tried, keeps.
use Rattle.std.proofs.Common.{◌≡◌, ◌∙◌, ℕ, zero, suc, ◌*◌, Option, None, length, refl, subst}
use Rattle.run_events.specs.Event.{Fits}
use Rattle.run_events.specs.declared.event.Event.{Event}
use Rattle.run_events.specs.declared.supply.Supplied.{Supplied}
use Rattle.hart_model.proofs.SoundLaws.{cpu_keeps, cpu_fits}
use Rattle.hart_model.specs.Aligned.{IsAligned}
use Rattle.hart_model.specs.State.{State}
use Rattle.hart_model.specs.Step.{cpu}
use Rattle.rv_cpu.specs.Sound.{IsSound}
use Rattle.rv_cpu.specs.PlainRun.{plain_after, plain_next}

pub cpu_sound : (s : State) (lines : ℕ) (supplied : Option Supplied) → IsSound s → IsSound (cpu s lines supplied).1
cpu_sound s lines supplied sound = record { aligned = (cpu_keeps s lines supplied).aligned sound.aligned }

-- a step that gives this event and this state keeps the alignment and the size of RAM, and its event fits
module _ (s t : State) (lines : ℕ) (supplied : Option Supplied) (event : Event) (is : cpu s lines supplied ≡ (event, t)) where
  pub step_sound : IsSound s → IsSound t
  step_sound a = subst (λ (r : Event × State). IsSound r.1) is (cpu_sound s lines supplied a)

  pub step_sized : length t.ram ≡ length s.ram
  step_sized = subst (λ (r : Event × State). length r.1.ram ≡ length s.ram) is (cpu_keeps s lines supplied).sized

  pub step_fits : (kib : ℕ) → IsAligned s → length s.ram ≡ 1024 * kib → Fits kib event
  step_fits kib a size = subst (λ (r : Event × State). Fits kib r.0) is (cpu_fits s lines supplied kib a size)

-- several steps that are given nothing keep both
pub after_sound : (lines count : ℕ) (s : State) → IsSound s → IsSound (plain_after lines count s)
unfolding plain_after
after_sound lines zero s a = a
after_sound lines (suc count) s a = after_sound lines count (plain_next lines s) (cpu_sound s lines None a)

pub after_sized : (lines count : ℕ) (s : State) → length (plain_after lines count s).ram ≡ length s.ram
unfolding plain_after
after_sized lines zero s = refl
after_sized lines (suc count) s = after_sized lines count (plain_next lines s) ∙ (cpu_keeps s lines None).sized
