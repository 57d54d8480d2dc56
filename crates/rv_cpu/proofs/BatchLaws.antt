-- Plain steps whose pc is kept beside the hart and whose counters rise at the end are the steps of the hart.
use Rattle.std.proofs.Common.{◌≡◌, ◌∙◌, ℕ, zero, suc, ◌+◌, ◌-◌, ◌%◌, ◌^◌, ◌<◌, ◌≤◌, ◌==◌, length, Bool, true, false, not, ◌&&◌, Option, None, Some, refl, sym, ap, subst, arith}
use Rattle.std.proofs.Math.Numerals.{suc-eq-add-one}
use Rattle.std.specs.Prelude.{if◌then◌else◌, is_none, is_some}
use Rattle.memory_map.specs.Device.{is_device}
use Rattle.memory_map.specs.Ram.{in_ram}
use Rattle.rv_csr.specs.declared.csrs.Csrs.{Csrs}
use Rattle.rv_csr.specs.Traps.{counted, pending}
use Rattle.rv_csr.proofs.CounterLaws.{counted_by, counted_more}
use Rattle.run_events.specs.declared.access.Access.TheVariants.{Load}
use Rattle.rv_decode.specs.declared.instruction.Instr.{Instr}
use Rattle.rv_decode.specs.declared.instruction.Instr.TheVariants as instr
use Rattle.rv_decode.specs.declared.operations.LoadOp.{LoadOp}
use Rattle.rv_decode.specs.declared.operations.StoreOp.{StoreOp}
use Rattle.hart_model.specs.Effect.{Effect, Outcome, Does, Raises, going_on, writing, jumping, accessing, loading, loading_ram, loading_device, storing, storing_at}
use Rattle.memory_map.specs.declared.TheConstants.{GRAIN}
use Rattle.hart_model.specs.Fetch.{Fetch, Found, Outside, fetched}
use Rattle.hart_model.specs.Operations.{bits, sum, is_taken, load_width, load_result, store_width}
use Rattle.hart_model.specs.State.{State, register}
use Rattle.hart_model.specs.Step.{cpu, outcome, step_by, after_decode, after_fetch, unless_interrupted}
use Rattle.rv_cpu.specs.Batch.{Going, going, goes, goes_plainly, goes_decoded, goes_fetched, counted_times, caught_up, from}
use Rattle.rv_cpu.specs.Midway.{settled}
use Rattle.run_events.specs.Access.{is_of_device}
use Rattle.rv_cpu.specs.Plain.{is_plain, is_plain_decoded, is_plain_fetched, is_plain_instr, is_plain_outcome}
use Rattle.rv_cpu.specs.PlainRun.{plain_after, plain_next, are_plain}
use Rattle.rv_cpu.proofs.PlainLaws.{first_of_both, second_of_both}

-- THE COUNTERS

-- no step leaves them
pub counted_none : (c : Csrs) (count : ℕ) → count ≤ 0 → c ≡ counted_times count c
unfolding counted_times
counted_none c zero none = refl
counted_none c (suc count) none = absurd (omega (arith, none))

-- one step settles them, and the others add to them
times_by : (count : ℕ) (c : Csrs) → (counted c true).mcycle < 2 ^ 64 → (counted c true).minstret < 2 ^ 64 → counted_times (suc count) c ≡ counted_by count (counted c true)
unfolding counted_times
times_by zero c cycles retired = grind (arith, small (counted c true).mcycle cycles, small (counted c true).minstret retired)
  where
    small : (n : ℕ) → n < 2 ^ 64 → n ≡ (n + 0) % 2 ^ 64
    small n within = omega (arith, within)
times_by (suc count) c cycles retired = ap (λ d. counted d true) (times_by count c cycles retired) ∙ counted_more count (counted c true)

-- as the code adds them
pub counted_some : (count more : ℕ) (c d : Csrs) → 0 < count → more ≡ count - 1 → d ≡ counted c true → d.mcycle < 2 ^ 64 → d.minstret < 2 ^ 64
    → record d { mcycle = (d.mcycle + more) % 2 ^ 64; minstret = (d.minstret + more) % 2 ^ 64 } ≡ counted_times count c
counted_some count more c d some fewer is cycles retired =
    added more d (counted c true) is ∙ sym (times_by more c (subst (λ (x : Csrs). x.mcycle < 2 ^ 64) is cycles) (subst (λ (x : Csrs). x.minstret < 2 ^ 64) is retired)) ∙ ap (λ n. counted_times n c) (whole count more some fewer)
  where
    added : (n : ℕ) (x y : Csrs) → x ≡ y → record x { mcycle = (x.mcycle + n) % 2 ^ 64; minstret = (x.minstret + n) % 2 ^ 64 } ≡ record y { mcycle = (y.mcycle + n) % 2 ^ 64; minstret = (y.minstret + n) % 2 ^ 64 }
    added n x y same = ap (λ (z : Csrs). record z { mcycle = (z.mcycle + n) % 2 ^ 64; minstret = (z.minstret + n) % 2 ^ 64 }) same

    whole : (n m : ℕ) → 0 < n → m ≡ n - 1 → suc m ≡ n
    whole n m some fewer = omega (arith, some, fewer)

-- they do not decide on interrupts
pub pending_times : (count lines : ℕ) (c : Csrs) → pending (counted_times count c) lines ≡ pending c lines
unfolding counted_times
pending_times zero lines c = refl
pending_times (suc count) lines c = pending_times count lines c

-- AN INSTRUCTION

-- the hart with other counters
abbrev pub moved : Csrs → ℕ → State → State
moved c n s = record s { csrs = c; step = n }

abbrev pub with_csrs : Csrs → Outcome → Outcome
with_csrs c (Does e) = Does (record e { csrs = c })
with_csrs c (Raises cause value) = Raises cause value

choose : (c : Csrs) (b : Bool) (x x' y y' : Outcome) → x' ≡ with_csrs c x → y' ≡ with_csrs c y → (if b then x' else y') ≡ with_csrs c (if b then x else y)
choose c true x x' y y' first second = first
choose c false x x' y y' first second = second

module _ (s : State) (c : Csrs) (n : ℕ) where
  jumping_moved : (size rd target : ℕ) → jumping (moved c n s) size rd target ≡ with_csrs c (jumping s size rd target)
  jumping_moved size rd target =
      choose c (target % GRAIN == 0) (Does (record (writing s size rd (sum s.pc size)) { next = target })) (Does (record (writing (moved c n s) size rd (sum s.pc size)) { next = target })) (Raises 0 target) (Raises 0 target) refl refl

  accessing_moved : (address width misaligned : ℕ) (x x' y y' : Outcome) → x' ≡ with_csrs c x → y' ≡ with_csrs c y
      → accessing (moved c n s) address width misaligned x' y' ≡ with_csrs c (accessing s address width misaligned x y)
  accessing_moved address width misaligned x x' y y' first second =
      choose c (address % width == 0) (if in_ram (length s.ram) address width then x else y) (if in_ram (length s.ram) address width then x' else y') (Raises misaligned address) (Raises misaligned address)
      (choose c (in_ram (length s.ram) address width) x x' y y' first second) refl

  branch_moved : (size target : ℕ) (taken : Bool) → (if taken then jumping (moved c n s) size 0 target else Does (going_on (moved c n s) size)) ≡ with_csrs c (if taken then jumping s size 0 target else Does (going_on s size))
  branch_moved size target true = jumping_moved size 0 target
  branch_moved size target false = refl

  loading_moved : (size : ℕ) (op : LoadOp) (rd address : ℕ) → loading (moved c n s) None size op rd address ≡ with_csrs c (loading s None size op rd address)
  loading_moved size op rd address =
      accessing_moved address (load_width op) 4 (loading_ram s size op rd address) (loading_ram (moved c n s) size op rd address) (loading_device s None size op rd address) (loading_device (moved c n s) None size op rd address) refl (device (is_device address))
    where
      device : (b : Bool) → (if b then Does (record (writing (moved c n s) size rd (load_result op 0)) { access = Load address (load_width op) 0 true 0 }) else Raises 5 address)
          ≡ with_csrs c (if b then Does (record (writing s size rd (load_result op 0)) { access = Load address (load_width op) 0 true 0 }) else Raises 5 address)
      device true = refl
      device false = refl

  storing_moved : (size : ℕ) (op : StoreOp) (value address : ℕ) → storing (moved c n s) size op value address ≡ with_csrs c (storing s size op value address)
  storing_moved size op value address =
      accessing_moved address (store_width op) 6 (storing_at s size op value address false) (storing_at (moved c n s) size op value address false)
      (if is_device address then storing_at s size op value address true else Raises 7 address) (if is_device address then storing_at (moved c n s) size op value address true else Raises 7 address) refl (device (is_device address))
    where
      device : (b : Bool) → (if b then storing_at (moved c n s) size op value address true else Raises 7 address) ≡ with_csrs c (if b then storing_at s size op value address true else Raises 7 address)
      device true = refl
      device false = refl

-- a plain instruction does the same beside them
pub outcome_moved : (s : State) (c : Csrs) (n lines word size : ℕ) (i : Instr) → is_plain_instr i ≡ true → outcome (moved c n s) lines None word size i ≡ with_csrs c (outcome s 0 None 0 size i)
unfolding outcome
outcome_moved s c n lines word size (instr.Lui rd imm) plain = refl
outcome_moved s c n lines word size (instr.Auipc rd imm) plain = refl
outcome_moved s c n lines word size (instr.Jal rd imm) plain = jumping_moved s c n size rd (sum s.pc (bits imm))
outcome_moved s c n lines word size (instr.Jalr rd rs1 imm) plain = let target = sum (register s rs1) (bits imm) in jumping_moved s c n size rd (target - target % 2)
outcome_moved s c n lines word size (instr.Branch op rs1 rs2 imm) plain = branch_moved s c n size (sum s.pc (bits imm)) (is_taken op (register s rs1) (register s rs2))
outcome_moved s c n lines word size (instr.Load op rd rs1 imm) plain = loading_moved s c n size op rd (sum (register s rs1) (bits imm))
outcome_moved s c n lines word size (instr.Store op rs1 rs2 imm) plain = storing_moved s c n size op (register s rs2) (sum (register s rs1) (bits imm))
outcome_moved s c n lines word size (instr.OpImm op rd rs1 imm) plain = refl
outcome_moved s c n lines word size (instr.Op op rd rs1 rs2) plain = refl
outcome_moved s c n lines word size _ plain = cc

-- what a plain step left at t where it was done at s, of a hart with other counters: it is a plain one, and this is after it
record Went (s t : State) (next : ℕ) (c : Csrs) (n : ℕ) (plain : Bool) (done : State) : Type 0 where
  is_plain : plain ≡ true
  after : done ≡ record t { pc = next; csrs = counted c true; step = n + 1 }
  csrs : t.csrs ≡ s.csrs
  step : t.step ≡ s.step

-- nothing goes on where it stays
nowhere : {X : Type 0} (next : ℕ) (t s : State) → going (Some next) t ≡ going None s → X
nowhere next t s is =
    let none : Some next ≡ None = ap (λ (g : Going). g.next) is in
    absurd cc

module _ (s t : State) (next : ℕ) (c : Csrs) (n word : ℕ) where
  went_effect : (e : Effect) (b : Bool) → e.csrs ≡ s.csrs → going (Some next) t ≡ (if b then goes s (Does e) else going None s) → Went s t next c n b (step_by (moved c n s) word (with_csrs c (Does e))).1
  unfolding step_by
  went_effect e true own is =
      let state : t ≡ settled s e = ap (λ (g : Going). g.state) is in
      let place : Some next ≡ Some e.next = ap (λ (g : Going). g.next) is in
      let to : next ≡ e.next = cc in
      record {
        is_plain = refl;
        after = ap (λ (x : State × ℕ). record x.0 { pc = x.1; csrs = counted c true; step = n + 1 }) (pair (sym state) (sym to));
        csrs = ap (λ (u : State). u.csrs) state ∙ own;
        step = ap (λ (u : State). u.step) state;
      }
    where
      pair : {x y : State} {a b : ℕ} → x ≡ y → a ≡ b → ◌≡◌ {A = State × ℕ} (x, a) (y, b)
      pair p q = cc
  went_effect e false own is = nowhere next t s is

  went_outcome : (o : Outcome) → o ≡ with_csrs s.csrs o → going (Some next) t ≡ goes_plainly s o → Went s t next c n (is_plain_outcome (with_csrs c o)) (step_by (moved c n s) word (with_csrs c o)).1
  went_outcome (Does e) own is =
      let same : e.csrs ≡ s.csrs = cc in
      went_effect e (not (is_of_device e.access)) same is
  went_outcome (Raises cause value) own is = nowhere next t s is

  went_by : (lines size : ℕ) (i : Instr) (b : Bool) → is_plain_instr i ≡ b → going (Some next) t ≡ (if b then goes_plainly s (outcome s 0 None 0 size i) else going None s)
      → Went s t next c n (b && is_plain_outcome (outcome (moved c n s) lines None word size i)) (step_by (moved c n s) word (outcome (moved c n s) lines None word size i)).1
  went_by lines size i true plain is =
      subst (λ (o : Outcome). Went s t next c n (is_plain_outcome o) (step_by (moved c n s) word o).1) (sym (outcome_moved s c n lines word size i plain))
      (went_outcome (outcome s 0 None 0 size i) (outcome_moved s s.csrs s.step 0 0 size i plain) is)
  went_by lines size i false plain is = nowhere next t s is

went_decoded : (s t : State) (next : ℕ) (c : Csrs) (n lines word size : ℕ) (i : Option Instr) → going (Some next) t ≡ goes_decoded s size i
    → Went s t next c n (is_plain_decoded (moved c n s) lines word size i) (after_decode (moved c n s) lines None word size i).1
went_decoded s t next c n lines word size None is = nowhere next t s is
went_decoded s t next c n lines word size (Some i) is = went_by s t next c n word lines size i (is_plain_instr i) refl is

went : (s t : State) (next : ℕ) (c : Csrs) (n lines : ℕ) (fetch : Fetch) → going (Some next) t ≡ goes_fetched s fetch
    → Went s t next c n (is_plain_fetched (moved c n s) lines fetch) (after_fetch (moved c n s) lines None fetch).1
went s t next c n lines (Found f) is = went_decoded s t next c n lines f.word f.size f.instr is
went s t next c n lines (Outside address) is = nowhere next t s is

-- and where it was not done, it is none, and nothing was done
record Stayed (s t : State) (plain : Bool) : Type 0 where
  is_not : plain ≡ false
  same : t ≡ s

stayed_choice : (s t : State) (e : Effect) (b : Bool) → going None t ≡ (if b then goes s (Does e) else going None s) → Stayed s t b
stayed_choice s t e true is =
    let none : None ≡ Some e.next = ap (λ (g : Going). g.next) is in
    absurd cc
stayed_choice s t e false is = record { is_not = refl; same = ap (λ (g : Going). g.state) is }

stayed_outcome : (s t : State) (c : Csrs) (o : Outcome) → going None t ≡ goes_plainly s o → Stayed s t (is_plain_outcome (with_csrs c o))
stayed_outcome s t c (Does e) is = stayed_choice s t e (not (is_of_device e.access)) is
stayed_outcome s t c (Raises cause value) is = record { is_not = refl; same = ap (λ (g : Going). g.state) is }

stayed_by : (s t : State) (c : Csrs) (n lines word size : ℕ) (i : Instr) (b : Bool) → is_plain_instr i ≡ b → going None t ≡ (if b then goes_plainly s (outcome s 0 None 0 size i) else going None s)
    → Stayed s t (b && is_plain_outcome (outcome (moved c n s) lines None word size i))
stayed_by s t c n lines word size i true plain is =
    subst (λ (o : Outcome). Stayed s t (is_plain_outcome o)) (sym (outcome_moved s c n lines word size i plain)) (stayed_outcome s t c (outcome s 0 None 0 size i) is)
stayed_by s t c n lines word size i false plain is = record { is_not = refl; same = ap (λ (g : Going). g.state) is }

stayed_decoded : (s t : State) (c : Csrs) (n lines word size : ℕ) (i : Option Instr) → going None t ≡ goes_decoded s size i → Stayed s t (is_plain_decoded (moved c n s) lines word size i)
stayed_decoded s t c n lines word size None is = record { is_not = refl; same = ap (λ (g : Going). g.state) is }
stayed_decoded s t c n lines word size (Some i) is = stayed_by s t c n lines word size i (is_plain_instr i) refl is

stayed : (s t : State) (c : Csrs) (n lines : ℕ) (fetch : Fetch) → going None t ≡ goes_fetched s fetch → Stayed s t (is_plain_fetched (moved c n s) lines fetch)
stayed s t c n lines (Found f) is = stayed_decoded s t c n lines f.word f.size f.instr is
stayed s t c n lines (Outside address) is = record { is_not = refl; same = ap (λ (g : Going). g.state) is }

-- A BATCH

both : (a b : Bool) → a ≡ true → b ≡ true → (a && b) ≡ true
both true b first second = second
both false b first second = cc

-- one more, at the end
after_more : (lines count : ℕ) (s : State) → plain_after lines (suc count) s ≡ plain_next lines (plain_after lines count s)
unfolding plain_after
after_more lines zero s = refl
after_more lines (suc count) s = after_more lines count (plain_next lines s)

plain_more : (lines count : ℕ) (s : State) → are_plain lines count s ≡ true → is_plain (plain_after lines count s) lines ≡ true → are_plain lines (suc count) s ≡ true
unfolding plain_after are_plain
plain_more lines zero s before last = both _ _ last refl
plain_more lines (suc count) s before last =
    both _ _ (first_of_both _ _ before) (plain_more lines count (plain_next lines s) (second_of_both (is_plain s lines) _ before) last)

-- so many steps were done from a start, of which this is what they wrote
pub record Ran (lines : ℕ) (start s : State) (done : ℕ) : Type 0 where
  pub plain : are_plain lines done start ≡ true
  pub state : plain_after lines done start ≡ caught_up done s
  pub free : pending s.csrs lines ≡ None
  pub step : s.step ≡ start.step

pub ran_first : (lines pc : ℕ) (start : State) → start.pc ≡ pc → pending start.csrs lines ≡ None → Ran lines start (from start pc) 0
unfolding plain_after are_plain counted_times
ran_first lines pc start at free = record { plain = refl; state = ap (λ (x : ℕ × ℕ). record start { pc = x.0; step = x.1 }) (both_of at (none_more start.step)); free = free; step = refl }
  where
    none_more : (n : ℕ) → n ≡ n + 0
    none_more n = omega arith

    both_of : {a b c d : ℕ} → a ≡ b → c ≡ d → ◌≡◌ {A = ℕ × ℕ} (a, c) (b, d)
    both_of p q = cc

-- with a step more, which left this
pub ran_step : (lines : ℕ) (start s t : State) (done : ℕ) → Ran lines start s done → is_plain (caught_up done s) lines ≡ true → plain_next lines (caught_up done s) ≡ caught_up (done + 1) t → t.csrs ≡ s.csrs → t.step ≡ s.step
    → Ran lines start t (done + 1)
ran_step lines start s t done ran plain next csrs step = record {
  plain = subst (λ (n : ℕ). are_plain lines n start ≡ true) (suc-eq-add-one done) (plain_more lines done start ran.plain (ap (λ (u : State). is_plain u lines) ran.state ∙ plain));
  state = subst (λ (n : ℕ). plain_after lines n start ≡ caught_up (done + 1) t) (suc-eq-add-one done) (after_more lines done start ∙ ap (plain_next lines) ran.state ∙ next);
  free = ap (λ (c : Csrs). pending c lines) csrs ∙ ran.free;
  step = step ∙ ran.step;
}

-- their number is read off the counters
module _ (lines : ℕ) (start s : State) (done : ℕ) (ran : Ran lines start s done) where
  count_of : s.step + done - start.step ≡ done
  count_of = counted_from s.step start.step done ran.step
    where
      counted_from : (m n k : ℕ) → m ≡ n → m + k - n ≡ k
      counted_from m n k same = omega (arith, same)

  pub plain_so_far : are_plain lines (s.step + done - start.step) start ≡ true
  plain_so_far = ap (λ (n : ℕ). are_plain lines n start) count_of ∙ ran.plain

  pub after_so_far : plain_after lines (s.step + done - start.step) start ≡ caught_up done s
  after_so_far = ap (λ (n : ℕ). plain_after lines n start) count_of ∙ ran.state

-- and none was done from here to here
module _ (lines : ℕ) (s : State) where
  none_of : s.step - s.step ≡ 0
  none_of = zero_of s.step
    where
      zero_of : (n : ℕ) → n - n ≡ 0
      zero_of n = omega arith

  pub plain_at_first : are_plain lines (s.step - s.step) s ≡ true
  unfolding are_plain
  plain_at_first = ap (λ (n : ℕ). are_plain lines n s) none_of

  pub after_at_first : plain_after lines (s.step - s.step) s ≡ s
  unfolding plain_after
  after_at_first = ap (λ (n : ℕ). plain_after lines n s) none_of

module _ (lines : ℕ) (start s t : State) (done : ℕ) (ran : Ran lines start s done) where
  -- interrupts wait no more than before
  waits : pending (counted_times done s.csrs) lines ≡ None
  waits = pending_times done lines s.csrs ∙ ran.free

  plain_by : (fetch : Bool) → is_plain_fetched (caught_up done s) lines (fetched s.ram s.pc) ≡ fetch → is_plain (caught_up done s) lines ≡ fetch
  unfolding is_plain
  plain_by fetch is = ap (λ (cause : Option ℕ). is_none cause && is_plain_fetched (caught_up done s) lines (fetched s.ram s.pc)) waits ∙ is

  next_by : plain_next lines (caught_up done s) ≡ (after_fetch (caught_up done s) lines None (fetched s.ram s.pc)).1
  unfolding cpu
  next_by = ap (λ (cause : Option ℕ). (unless_interrupted (caught_up done s) lines None cause).1) waits

  pub ran_next : (next : ℕ) → going (Some next) t ≡ goes_fetched s (fetched s.ram s.pc) → Ran lines start (from t next) (done + 1)
  unfolding counted_times
  ran_next next is =
      let one = went s t next (counted_times done s.csrs) (s.step + done) lines (fetched s.ram s.pc) is in
      ran_step lines start s (from t next) done ran (plain_by true one.is_plain)
      (next_by ∙ one.after ∙ caught (counted_times done s.csrs) (counted_times done t.csrs) (s.step + done + 1) (t.step + suc done) (ap (counted_times done) (sym one.csrs)) (steps s.step t.step one.step)
      ∙ ap (λ n. caught_up n (from t next)) (suc-eq-add-one done))
      one.csrs one.step
    where
      caught : (c d : Csrs) (m n : ℕ) → c ≡ d → m ≡ n → record t { pc = next; csrs = counted c true; step = m } ≡ record t { pc = next; csrs = counted d true; step = n }
      caught c d m n first second = cc

      steps : (m n : ℕ) → n ≡ m → m + done + 1 ≡ n + suc done
      steps m n same = omega (arith, same)

  pub stays_plain : going None t ≡ goes_fetched s (fetched s.ram s.pc) → is_plain (caught_up done t) lines ≡ false
  stays_plain is =
      let one = stayed s t (counted_times done s.csrs) (s.step + done) lines (fetched s.ram s.pc) is in
      subst (λ (u : State). is_plain (caught_up done u) lines ≡ false) (sym one.same) (plain_by false one.is_not)

-- while an interrupt waits, no step is a plain one
pub waiting_plain : (s : State) (lines : ℕ) → is_some (pending s.csrs lines) ≡ true → is_plain s lines ≡ false
unfolding is_plain
waiting_plain s lines waiting = not_none (pending s.csrs lines) _ waiting
  where
    not_none : (cause : Option ℕ) (fetch : Bool) → is_some cause ≡ true → (is_none cause && fetch) ≡ false
    not_none None fetch some = cc
    not_none (Some cause) fetch some = refl

pub free_by : (cause : Option ℕ) → is_some cause ≡ false → cause ≡ None
free_by None none = refl
free_by (Some cause) none = cc
