-- A loop over plain steps that are shown is a run of the hart.
use Rattle.std.proofs.Common.{◌≡◌, ◌∙◌, ℕ, zero, suc, ◌%◌, ◌+◌, ◌*◌, ◌<◌, true, false, List, [], ◌∷◌, ◌++◌, length, Option, None, Some, refl, sym, ap, subst, append-nil, arith}
use Rattle.std.specs.Prelude.{is_some}
use Rattle.memory_map.specs.declared.TheConstants.{GRAIN, POWER}
use Rattle.run_events.specs.declared.event.Event.{Event}
use Rattle.run_events.specs.Event.{Fits, byte_stored}
use Rattle.any_machine.specs.Running.{RunSoFar, unfed}
use Rattle.any_machine.proofs.RunningLaws.{loop_fast, loop_first}
use Rattle.rv_csr.specs.declared.csrs.Csrs.{Csrs}
use Rattle.rv_csr.specs.Traps.{pending}
use Rattle.hart_model.specs.Aligned.{IsAligned}
use Rattle.hart_model.specs.Machine.{hart}
use Rattle.hart_model.specs.State.{State}
use Rattle.hart_model.specs.Step.{cpu}
use Rattle.hart_model.proofs.CountLaws.{hart_counts}
use Rattle.rv_cpu.specs.Batch.{caught_up, counted_times}
use Rattle.rv_cpu.specs.Plain.{is_plain}
use Rattle.rv_cpu.specs.Told.{events_told, next_told, state_told}
use Rattle.rv_cpu.proofs.BatchLaws.{Ran, ran_first, ran_step}
use Rattle.rv_cpu.proofs.CpuLaws.{step_fits, step_sized, step_sound}
use Rattle.rv_cpu.proofs.PlainLaws.{plain_needs, plain_stores}
use Rattle.rv_cpu.proofs.ToldLaws.{none_told, step_told}

abbrev pub steps_of : State → ℕ
steps_of s = s.step

-- the counters of a hart that is no step behind
pub caught_none : (s : State) → s ≡ caught_up 0 s
unfolding counted_times
caught_none s = ap (λ (n : ℕ). record s { step = n }) (more s.step)
  where
    more : (n : ℕ) → n ≡ n + 0
    more n = omega arith

-- the counters do not decide on where instructions can begin
mepc_times : (count : ℕ) (c : Csrs) → (counted_times count c).mepc ≡ c.mepc
unfolding counted_times
mepc_times zero c = refl
mepc_times (suc count) c = mepc_times count c

pub aligned_ahead : (count : ℕ) (s : State) → IsAligned s → IsAligned (caught_up count s)
aligned_ahead count s a = record { pc = a.pc; mepc = ap (λ (m : ℕ). m % GRAIN) (mepc_times count s.csrs) ∙ a.mepc }

aligned_behind : (count : ℕ) (s : State) → IsAligned (caught_up count s) → IsAligned s
aligned_behind count s a = record { pc = a.pc; mepc = ap (λ (m : ℕ). m % GRAIN) (sym (mepc_times count s.csrs)) ∙ a.mepc }

-- an event that is told fits
pub told_fits : (lines behind kib : ℕ) (s : State) → pending s.csrs lines ≡ None → IsAligned s → length s.ram ≡ 1024 * kib
    → (event : Event) (next : State) → next_told behind lines s ≡ Some (event, next) → Fits kib event
told_fits lines behind kib s free aligned size event next is =
    step_fits (caught_up behind s) (caught_up (behind + 1) next) lines None event (step_told lines behind s (event, next) free is).is kib (aligned_ahead behind s aligned) size

-- what a plain step that is shown leaves
pub record GoesOn (lines behind : ℕ) (s t : State) (Seen SeenNow : List Event → Type 0) : Type 0 where
  pub event : Event
  pub is : cpu (caught_up behind s) lines None ≡ (event, caught_up (behind + 1) t)
  pub plain : is_plain (caught_up behind s) lines ≡ true
  pub csrs : t.csrs ≡ s.csrs
  pub step : t.step ≡ s.step
  pub seen : (h : List Event) → Seen h → SeenNow (h ++ event ∷ [])

-- and what stays where it is none
pub record Stays (lines behind : ℕ) (s t : State) (Seen SeenNow : List Event → Type 0) : Type 0 where
  pub plain : is_plain (caught_up behind s) lines ≡ false
  pub state : t ≡ s
  pub seen : (h : List Event) → Seen h → SeenNow h

module _ (lines behind : ℕ) (s t : State) (Seen SeenNow : List Event → Type 0) (state : t ≡ state_told s (next_told behind lines s))
    (seen : (h : List Event) → Seen h → SeenNow (h ++ events_told (next_told behind lines s))) where
  pub goes_on : pending s.csrs lines ≡ None → is_some (next_told behind lines s) ≡ true → GoesOn lines behind s t Seen SeenNow
  goes_on free some = by (next_told behind lines s) refl some state seen
    where
      by : (o : Option (Event × State)) → next_told behind lines s ≡ o → is_some o ≡ true → t ≡ state_told s o → ((h : List Event) → Seen h → SeenNow (h ++ events_told o)) → GoesOn lines behind s t Seen SeenNow
      by None is some left sees = absurd cc
      by (Some x) is some left sees =
          let one = step_told lines behind s x free is in
          record {
            event = x.0;
            is = one.is ∙ ap (λ (u : State). (x.0, caught_up (behind + 1) u)) (sym left);
            plain = one.plain;
            csrs = ap (λ (u : State). u.csrs) left ∙ one.csrs;
            step = ap (λ (u : State). u.step) left ∙ one.step;
            seen = sees;
          }

  pub stays : pending s.csrs lines ≡ None → is_some (next_told behind lines s) ≡ false → Stays lines behind s t Seen SeenNow
  stays free none = by (next_told behind lines s) refl none state seen
    where
      by : (o : Option (Event × State)) → next_told behind lines s ≡ o → is_some o ≡ false → t ≡ state_told s o → ((h : List Event) → Seen h → SeenNow (h ++ events_told o)) → Stays lines behind s t Seen SeenNow
      by None is none left sees = record { plain = none_told lines behind s free is; state = left; seen = λ h was. subst SeenNow (append-nil h) (sees h was) }
      by (Some x) is none left sees = absurd cc

-- a hart whose counters are some steps behind stands where a run of the hart stands
pub record Standing (lines number behind : ℕ) (first now : State) (Seen SeenNow : List Event → Type 0) : Type 0 where
  pub so_far : RunSoFar hart number (unfed steps_of lines first) (unfed steps_of lines (caught_up behind now)) Seen SeenNow
  pub aligned : IsAligned now
  pub ram : length now.ram ≡ length first.ram
  pub ran : Ran lines first now behind

pub stands_first : (lines number : ℕ) (first : State) (Seen : List Event → Type 0) → IsAligned first → pending first.csrs lines ≡ None → Standing lines number 0 first first Seen Seen
stands_first lines number first Seen aligned free = record {
  so_far = subst (λ (s : State). RunSoFar hart number (unfed steps_of lines first) (unfed steps_of lines s) Seen Seen) (caught_none first) (loop_first hart number (unfed steps_of lines first) Seen);
  aligned = aligned;
  ram = refl;
  ran = ran_first lines first.pc first refl free;
}

module _ (lines number behind : ℕ) (first s t : State) (Seen SeenNow SeenNext : List Event → Type 0) (stands : Standing lines number behind first s Seen SeenNow) where
  -- with one step more
  pub stands_next : s.step + behind < number → GoesOn lines behind s t SeenNow SeenNext → Standing lines number (behind + 1) first t Seen SeenNext
  unfolding hart
  stands_next room on = record {
    so_far =
        loop_fast hart steps_of hart_counts lines (caught_up behind s) (caught_up (behind + 1) t) on.event on.is number (unfed steps_of lines first) Seen SeenNow SeenNext stands.so_far room
        (plain_needs (caught_up behind s) lines on.plain)
        (ap (λ (x : Event × State). byte_stored POWER x.0) (sym on.is) ∙ plain_stores (caught_up behind s) lines POWER on.plain (omega (arith)))
        on.seen;
    aligned = aligned_behind (behind + 1) t (step_sound (caught_up behind s) (caught_up (behind + 1) t) lines None on.event on.is (record { aligned = aligned_ahead behind s stands.aligned })).aligned;
    ram = step_sized (caught_up behind s) (caught_up (behind + 1) t) lines None on.event on.is ∙ stands.ram;
    ran = ran_step lines first s t behind stands.ran on.plain (ap (λ (x : Event × State). x.1) on.is) on.csrs on.step;
  }

  -- and where none was done
  pub stands_still : Stays lines behind s t SeenNow SeenNext → Standing lines number behind first t Seen SeenNext
  stands_still still = subst (λ (u : State). Standing lines number behind first u Seen SeenNext) (sym still.state) (record {
    so_far = record { steps = stands.so_far.steps; held = stands.so_far.held; events = stands.so_far.events; goes = stands.so_far.goes; seen = λ h was. still.seen (h ++ stands.so_far.events) (stands.so_far.seen h was) };
    aligned = stands.aligned;
    ram = stands.ram;
    ran = stands.ran;
  })
