-- What each step keeps: instructions begin where they can, RAM keeps its size, and the event fits it.
use Rattle.std.proofs.Common.{◌≡◌, ℕ, ◌*◌, ◌%◌, true, false, length, Option, refl, sym, ◌∙◌, subst, arith}
use Rattle.memory_map.specs.Ram.{InRam}
use Rattle.run_events.specs.Event.{Fits, AccessFits}
use Rattle.run_events.specs.declared.access.Access.{Access}
use Rattle.run_events.specs.declared.access.Access.TheVariants.{Quiet, Load, Store, Swap}
use Rattle.run_events.specs.declared.event.Event.{Event}
use Rattle.run_events.specs.declared.supply.Supplied.{Supplied}
use Rattle.rv_csr.proofs.TrapLaws.{vector_aligned}
use Rattle.rv_memory.proofs.RamLaws.{length-stored}
use Rattle.hart_model.proofs.AnnouncementLaws.{IsQuietAnnouncement, announcement_quiet}
use Rattle.hart_model.proofs.FetchLaws.{IsFetched, found_is}
use Rattle.hart_model.proofs.OutcomeLaws.{OutcomeKeeps, AccessInside, outcome_keeps}
use Rattle.hart_model.proofs.StepCases.{each_step}
use Rattle.hart_model.specs.Aligned.{IsAligned}
use Rattle.hart_model.specs.Effect.{Outcome, Does, Raises}
use Rattle.memory_map.specs.declared.TheConstants.{GRAIN}
use Rattle.hart_model.specs.Fetch.{Fetched}
use Rattle.hart_model.specs.State.{State}
use Rattle.hart_model.specs.Step.{cpu, outcome, step_by, ram_after}

-- an access that stays inside RAM keeps its size
size_after : (s : State) (a : Access) → AccessInside (length s.ram) a → length (ram_after s.ram a) ≡ length s.ram
size_after s Quiet inside = refl
size_after s (Load address width value device mark) inside = refl
size_after s (Store address width value true) inside = refl
size_after s (Store address width value false) inside = length-stored s.ram address width value inside.whole inside.within
size_after s (Swap address old new) inside = length-stored s.ram address 4 new inside.whole inside.within

-- what a step keeps of a state
pub record StepKeeps (s : State) (result : Event × State) : Type 0 where
  pub aligned : IsAligned s → IsAligned result.1
  pub sized : length result.1.ram ≡ length s.ram

by_keeps : (s : State) (size word : ℕ) (o : Outcome) → size % GRAIN ≡ 0 → OutcomeKeeps s size o → StepKeeps s (step_by s word o)
unfolding step_by
by_keeps s size word (Does e) whole keeps =
    record { aligned = λ a. record { pc = keeps.next a whole; mepc = keeps.mepc a }; sized = size_after s e.access keeps.data_inside }
by_keeps s size word (Raises cause value) whole keeps = record { aligned = λ a. record { pc = vector_aligned s.csrs cause; mepc = a.pc }; sized = refl }

pub cpu_keeps : (s : State) (lines : ℕ) (supplied : Option Supplied) → StepKeeps s (cpu s lines supplied)
cpu_keeps s lines supplied =
    each_step (StepKeeps s) s lines supplied (record {
      interrupt = λ cause is. record { aligned = λ a. record { pc = vector_aligned s.csrs cause; mepc = a.pc }; sized = refl };
      outside = λ address is. by_keeps s 0 0 (Raises 1 address) refl tt;
      illegal = λ f found is. by_keeps s 0 f.word (Raises 2 f.word) refl tt;
      instruction = λ f i found is. by_keeps s f.size f.word _ (grind (arith, (found_is s.ram s.pc f found).sized)) (outcome_keeps s f.size lines supplied f.word i);
    })

-- an access inside a RAM of whole KiB fits it
access_fits : (kib bytes : ℕ) (a : Access) → bytes ≡ 1024 * kib → AccessInside bytes a → AccessFits kib a
access_fits kib bytes Quiet is inside = tt
access_fits kib bytes (Load address width value true mark) is inside = tt
access_fits kib bytes (Load address width value false mark) is inside = record { whole = inside.whole; within = subst (λ n. InRam n address width) is inside.within }
access_fits kib bytes (Store address width value true) is inside = tt
access_fits kib bytes (Store address width value false) is inside = record { whole = inside.whole; within = subst (λ n. InRam n address width) is inside.within }
access_fits kib bytes (Swap address old new) is inside = record { whole = inside.whole; within = subst (λ n. InRam n address 4) is inside.within }

-- an announcement accesses no data
by_fits : (s : State) (kib : ℕ) (f : Fetched) (o : Outcome) → IsAligned s → length s.ram ≡ 1024 * kib → IsFetched s.ram s.pc f → OutcomeKeeps s f.size o → IsQuietAnnouncement f.word o → Fits kib (step_by s f.word o).0
unfolding step_by
by_fits s kib f (Does e) a is found keeps quiet =
    record {
      fetched = record { aligned = a.pc; within = subst (λ n. InRam n s.pc 4) is found.within };
      data_fits = access_fits kib (length s.ram) e.access is keeps.data_inside;
      announced = quiet;
    }
by_fits s kib f (Raises cause value) a is found keeps quiet = tt

raises_fits : (s : State) (kib word cause value : ℕ) → Fits kib (step_by s word (Raises cause value)).0
unfolding step_by
raises_fits s kib word cause value = tt

-- the event of a step fits the RAM
pub cpu_fits : (s : State) (lines : ℕ) (supplied : Option Supplied) (kib : ℕ) → IsAligned s → length s.ram ≡ 1024 * kib → Fits kib (cpu s lines supplied).0
cpu_fits s lines supplied kib a is =
    each_step (λ result. Fits kib result.0) s lines supplied (record {
      interrupt = λ cause pending. tt;
      outside = λ address out. raises_fits s kib 0 1 address;
      illegal = λ f found none. raises_fits s kib f.word 2 f.word;
      instruction = λ f i found spelled.
          let there = found_is s.ram s.pc f found in
          by_fits s kib f (outcome s lines supplied f.word f.size i) a is there (outcome_keeps s f.size lines supplied f.word i) (announcement_quiet s lines supplied f.word f.size i (sym there.read ∙ spelled));
    })
