-- What a plain step shows and leaves where the counters are some steps behind is the step of the hart.
use Rattle.std.proofs.Common.{◌≡◌, ◌∙◌, ℕ, suc, ◌+◌, Bool, true, false, not, ◌&&◌, length, Option, None, Some, refl, sym, ap, subst, arith}
use Rattle.std.specs.Prelude.{if◌then◌else◌, is_none}
use Rattle.rv_csr.specs.declared.csrs.Csrs.{Csrs}
use Rattle.rv_csr.specs.Traps.{counted, pending}
use Rattle.run_events.specs.declared.event.Event.{Event}
use Rattle.run_events.specs.declared.event.Event.TheVariants.{Exec}
use Rattle.memory_map.specs.Ram.{in_ram}
use Rattle.rv_memory.specs.Ram.{loaded}
use Rattle.rv_decode.specs.declared.instruction.Instr.{Instr}
use Rattle.rv_decode.specs.Listing.{instruction}
use Rattle.hart_model.specs.Effect.{Effect, Outcome, Does, Raises}
use Rattle.hart_model.specs.Fetch.{Fetch, Found, Outside, fetched}
use Rattle.hart_model.specs.State.{State, taken, told_by}
use Rattle.hart_model.specs.Step.{cpu, outcome, step_by, after_decode, after_fetch, unless_interrupted}
use Rattle.rv_cpu.specs.Batch.{counted_times, caught_up, from}
use Rattle.rv_cpu.specs.Midway.{Midway, settled, midway, plainly, refused, executed_plainly}
use Rattle.run_events.specs.Access.{is_of_device}
use Rattle.rv_cpu.specs.Plain.{is_plain, is_plain_decoded, is_plain_fetched, is_plain_instr, is_plain_outcome}
use Rattle.rv_cpu.specs.Told.{told_midway, told_decoded, told_fetched, next_told}
use Rattle.rv_cpu.proofs.BatchLaws.{moved, with_csrs, outcome_moved, pending_times}

-- what was told at s is the step of the hart with these counters, and a plain one
record Told (s : State) (c : Csrs) (n : ℕ) (plain : Bool) (stepped told : Event × State) : Type 0 where
  is_plain : plain ≡ true
  is : stepped ≡ (told.0, record told.1 { csrs = counted c true; step = n + 1 })
  csrs : told.1.csrs ≡ s.csrs
  step : told.1.step ≡ s.step

module _ (s : State) (c : Csrs) (behind word : ℕ) (x : Event × State) where
  told_effect : (e : Effect) (b : Bool) → e.csrs ≡ s.csrs → told_midway behind (told_by s.registers) word (if b then midway s (Does e) else refused s) ≡ Some x
      → Told s c (s.step + behind) b (step_by (moved c (s.step + behind) s) word (with_csrs c (Does e))) x
  unfolding step_by
  told_effect e true own is =
      let told : (Exec (s.step + behind) s.pc word e.next (taken e.rd e.value) e.access (told_by s.registers), from (settled s e) e.next) ≡ x = cc in
      subst (λ (y : Event × State). Told s c (s.step + behind) true (step_by (moved c (s.step + behind) s) word (with_csrs c (Does e))) y) told
      (record { is_plain = refl; is = refl; csrs = own; step = refl })
  told_effect e false own is = absurd cc

  told_outcome : (o : Outcome) → o ≡ with_csrs s.csrs o → told_midway behind (told_by s.registers) word (plainly s o) ≡ Some x
      → Told s c (s.step + behind) (is_plain_outcome (with_csrs c o)) (step_by (moved c (s.step + behind) s) word (with_csrs c o)) x
  told_outcome (Does e) own is =
      let same : e.csrs ≡ s.csrs = cc in
      told_effect e (not (is_of_device e.access)) same is
  told_outcome (Raises cause value) own is = absurd cc

  told_instr : (lines size : ℕ) (i : Instr) (b : Bool) → is_plain_instr i ≡ b
      → told_midway behind (told_by s.registers) word (if b then plainly s (outcome s lines None word size i) else refused s) ≡ Some x
      → Told s c (s.step + behind) (b && is_plain_outcome (outcome (moved c (s.step + behind) s) lines None word size i)) (step_by (moved c (s.step + behind) s) word (outcome (moved c (s.step + behind) s) lines None word size i)) x
  told_instr lines size i true plain is =
      let o = outcome s 0 None 0 size i in
      let own : o ≡ with_csrs s.csrs o = outcome_moved s s.csrs s.step 0 0 size i plain in
      let here : outcome s lines None word size i ≡ o = outcome_moved s s.csrs s.step lines word size i plain ∙ sym own in
      subst (λ (r : Outcome). Told s c (s.step + behind) (is_plain_outcome r) (step_by (moved c (s.step + behind) s) word r) x) (sym (outcome_moved s c (s.step + behind) lines word size i plain))
      (told_outcome o own (ap (λ (r : Outcome). told_midway behind (told_by s.registers) word (plainly s r)) (sym here) ∙ is))
  told_instr lines size i false plain is = absurd cc

module _ (s : State) (c : Csrs) (behind lines : ℕ) (x : Event × State) where
  by_decode : (word size : ℕ) (i : Option Instr) → told_decoded behind lines s word size i ≡ Some x
      → Told s c (s.step + behind) (is_plain_decoded (moved c (s.step + behind) s) lines word size i) (after_decode (moved c (s.step + behind) s) lines None word size i) x
  by_decode word size None is = absurd cc
  by_decode word size (Some i) is = told_instr s c behind word x lines size i (is_plain_instr i) refl is

  by_fetch : (fetch : Fetch) → told_fetched behind lines s fetch ≡ Some x
      → Told s c (s.step + behind) (is_plain_fetched (moved c (s.step + behind) s) lines fetch) (after_fetch (moved c (s.step + behind) s) lines None fetch) x
  by_fetch (Found f) is = by_decode f.word f.size f.instr is
  by_fetch (Outside address) is = absurd cc

-- and where nothing is told, the step is no plain one
module _ (s : State) (c : Csrs) (behind n word : ℕ) where
  none_effect : (e : Effect) (b : Bool) → told_midway behind (told_by s.registers) word (if b then midway s (Does e) else refused s) ≡ None → b ≡ false
  none_effect e true is = absurd cc
  none_effect e false is = refl

  none_outcome : (o : Outcome) → told_midway behind (told_by s.registers) word (plainly s o) ≡ None → is_plain_outcome (with_csrs c o) ≡ false
  none_outcome (Does e) is = none_effect e (not (is_of_device e.access)) is
  none_outcome (Raises cause value) is = refl

  none_instr : (lines size : ℕ) (i : Instr) (b : Bool) → is_plain_instr i ≡ b → told_midway behind (told_by s.registers) word (if b then plainly s (outcome s lines None word size i) else refused s) ≡ None
      → (b && is_plain_outcome (outcome (moved c n s) lines None word size i)) ≡ false
  none_instr lines size i true plain is =
      let o = outcome s 0 None 0 size i in
      let own : o ≡ with_csrs s.csrs o = outcome_moved s s.csrs s.step 0 0 size i plain in
      let here : outcome s lines None word size i ≡ o = outcome_moved s s.csrs s.step lines word size i plain ∙ sym own in
      ap is_plain_outcome (outcome_moved s c n lines word size i plain) ∙ none_outcome o (ap (λ (r : Outcome). told_midway behind (told_by s.registers) word (plainly s r)) (sym here) ∙ is)
  none_instr lines size i false plain is = refl

none_decoded : (s : State) (c : Csrs) (behind n lines word size : ℕ) (i : Option Instr) → told_decoded behind lines s word size i ≡ None → is_plain_decoded (moved c n s) lines word size i ≡ false
none_decoded s c behind n lines word size None is = refl
none_decoded s c behind n lines word size (Some i) is = none_instr s c behind n word lines size i (is_plain_instr i) refl is

none_fetched : (s : State) (c : Csrs) (behind n lines : ℕ) (fetch : Fetch) → told_fetched behind lines s fetch ≡ None → is_plain_fetched (moved c n s) lines fetch ≡ false
none_fetched s c behind n lines (Found f) is = none_decoded s c behind n lines f.word f.size f.instr is
none_fetched s c behind n lines (Outside address) is = refl

pub none_told : (lines behind : ℕ) (s : State) → pending s.csrs lines ≡ None → next_told behind lines s ≡ None → is_plain (caught_up behind s) lines ≡ false
unfolding is_plain
none_told lines behind s free is =
    ap (λ (cause : Option ℕ). is_none cause && is_plain_fetched (caught_up behind s) lines (fetched s.ram s.pc)) (pending_times behind lines s.csrs ∙ free)
    ∙ none_fetched s (counted_times behind s.csrs) behind (s.step + behind) lines (fetched s.ram s.pc) is

-- what is told of the word that stands at the pc, and of its instruction
pub told_word : (behind lines : ℕ) (s : State) (word : ℕ) → in_ram (length s.ram) s.pc 4 ≡ true → word ≡ loaded s.ram s.pc 4 → next_told behind lines s ≡ told_decoded behind lines s word 4 (instruction word)
told_word behind lines s word there is =
    ap (λ (b : Bool). told_fetched behind lines s (if b then Found (record { word = loaded s.ram s.pc 4; size = 4; instr = instruction (loaded s.ram s.pc 4) }) else Outside s.pc)) there
    ∙ ap (λ (w : ℕ). told_decoded behind lines s w 4 (instruction w)) (sym is)

pub told_found : (behind lines : ℕ) (s : State) (word : ℕ) (i : Instr) (m : Midway) → in_ram (length s.ram) s.pc 4 ≡ true → word ≡ loaded s.ram s.pc 4 → Some i ≡ instruction word → m ≡ executed_plainly s i (outcome s lines None word 4 i)
    → next_told behind lines s ≡ told_midway behind (told_by s.registers) word m
told_found behind lines s word i m there is read done =
    told_word behind lines s word there is ∙ ap (told_decoded behind lines s word 4) (sym read) ∙ ap (told_midway behind (told_by s.registers) word) (sym done)

-- the step of the hart once its counters have caught up, where no interrupt waits
pub record StepTold (lines behind : ℕ) (s : State) (x : Event × State) : Type 0 where
  pub plain : is_plain (caught_up behind s) lines ≡ true
  pub is : cpu (caught_up behind s) lines None ≡ (x.0, caught_up (behind + 1) x.1)
  pub csrs : x.1.csrs ≡ s.csrs
  pub step : x.1.step ≡ s.step

pub step_told : (lines behind : ℕ) (s : State) (x : Event × State) → pending s.csrs lines ≡ None → next_told behind lines s ≡ Some x → StepTold lines behind s x
unfolding is_plain cpu counted_times
step_told lines behind s x free is =
    let one = by_fetch s (counted_times behind s.csrs) behind lines x (fetched s.ram s.pc) is in
    let waits : pending (counted_times behind s.csrs) lines ≡ None = pending_times behind lines s.csrs ∙ free in
    record {
      plain = ap (λ (cause : Option ℕ). is_none cause && is_plain_fetched (caught_up behind s) lines (fetched s.ram s.pc)) waits ∙ one.is_plain;
      is =
          ap (λ (cause : Option ℕ). unless_interrupted (caught_up behind s) lines None cause) waits ∙ one.is
          ∙ caught x (counted_times behind s.csrs) (counted_times behind x.1.csrs) (s.step + behind + 1) (x.1.step + suc behind) (ap (counted_times behind) (sym one.csrs)) (steps s.step x.1.step one.step)
          ∙ ap (λ n. (x.0, caught_up n x.1)) (more behind);
      csrs = one.csrs;
      step = one.step;
    }
  where
    caught : (y : Event × State) (c d : Csrs) (m n : ℕ) → c ≡ d → m ≡ n → ◌≡◌ {A = Event × State} (y.0, record y.1 { csrs = counted c true; step = m }) (y.0, record y.1 { csrs = counted d true; step = n })
    caught y c d m n first second = cc

    steps : (m n : ℕ) → n ≡ m → m + behind + 1 ≡ n + suc behind
    steps m n same = omega (arith, same)

    more : (n : ℕ) → suc n ≡ n + 1
    more n = omega arith
