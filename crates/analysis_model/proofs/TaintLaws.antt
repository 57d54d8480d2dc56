-- What is made of marks goes by the marks of the machine's places alone.
use Rattle.std.proofs.Common.{◌≡◌, nat_eq, ℕ, zero, suc, ◌+◌, ◌-◌, ◌*◌, min, max, Bool, true, false, cond, List, [], ◌∷◌, Option, None, Some, refl, ap, ◌∙◌, arith}
use Rattle.std.specs.Prelude.{IfSome}
use Rattle.std.specs.List.{AllByRecursion}
use Rattle.std.specs.Option.{option_map, option_or}
use Rattle.list_laws.proofs.LeastLaws.{least_same}
use Rattle.memory_map.specs.declared.TheConstants.{RAM_START}
use Rattle.memory_map.specs.Ram.{InRam}
use Rattle.run_events.specs.declared.access.Access.{Access}
use Rattle.run_events.specs.declared.access.Access.TheVariants as access
use Rattle.run_events.specs.declared.announcement.Announcement.{Announcement}
use Rattle.run_events.specs.declared.announcement.Announcement.TheVariants.{Allocate, Free, Acquire, Release, Enter, Check, Guard}
use Rattle.run_events.specs.declared.event.Event.{Event}
use Rattle.run_events.specs.declared.event.Event.TheVariants.{Dma, Irq, Trap, Exec}
use Rattle.run_events.specs.Announcement.{announced_by}
use Rattle.run_events.specs.Event.{AccessFits, Fits}
use Rattle.rv_decode.specs.declared.instruction.Instr.{Instr}
use Rattle.rv_decode.specs.declared.instruction.Instr.TheVariants.{Lui, Auipc, Jal, Jalr, Branch, Load, Store, OpImm, Op, Fence, Atomic, Csr, Ecall, Ebreak, Mret, Wfi}
use Rattle.rv_decode.specs.declared.operations.AtomicOp.{AtomicOp}
use Rattle.rv_decode.specs.declared.operations.AtomicOp.TheVariants.{Lr, Sc, Swap}
use Rattle.rv_decode.specs.declared.operations.CsrOp.{CsrOp}
use Rattle.rv_decode.specs.declared.operations.CsrOp.TheVariants.{Csrrw, Csrrs, Csrrc, Csrrwi, Csrrsi, Csrrci}
use Rattle.rv_decode.specs.declared.operations.RegOp.{RegOp}
use Rattle.rv_decode.specs.declared.operations.RegOp.TheVariants.{Xor, Sub}
use Rattle.rv_decode.specs.Listing.{instruction}
use Rattle.analysis_model.specs.Taint.{Place, Register, Scratch, Byte, IsPlace, Sources, Given, From, unmarked, register, bytes_from, Writes, operands, loaded, writes_bytes, old_bytes, atomic_writes, scratch_writes, csr_writes, writes_by, writes_as, writes_of, sources_in, is_marked, union, union_of, mark_of, mark_or, bad_jump, is_marked_jump, jump, leaked, most_checked, leak, taint_by}

-- sources that a machine with so many KiB of RAM has
abbrev pub AreSources : ℕ → Sources → Type 0
AreSources kib (Given mark) = Unit {0}
AreSources kib (From places) = AllByRecursion (IsPlace kib) places

pub record WritesFit (kib : ℕ) (writes : Writes) : Type 0 where
  pub result : IfSome writes.result (AreSources kib)
  pub scratch : IfSome writes.scratch (AreSources kib)
  pub stored : IfSome writes.stored (AreSources kib)

bytes_from-fit : (kib address count : ℕ) → InRam (1024 * kib) address count → AllByRecursion (IsPlace kib) (bytes_from address count)
bytes_from-fit kib address zero within = tt
bytes_from-fit kib address (suc count) within =
    (record { from = within.from; to = omega (arith, within.to) }, bytes_from-fit kib (address + 1) count (record { from = omega (arith, within.from); to = omega (arith, within.to) }))

loaded-fit : (kib : ℕ) (access : Access) → AccessFits kib access → IfSome (loaded access) (AreSources kib)
loaded-fit kib access.Quiet fits = tt
loaded-fit kib (access.Load address width value true mark) fits = tt
loaded-fit kib (access.Load address width value false mark) fits = bytes_from-fit kib address width fits.within
loaded-fit kib (access.Store address width value device) fits = tt
loaded-fit kib (access.Swap address old new) fits = tt

writes_bytes-fit : (kib : ℕ) (access : Access) (sources : Sources) → AreSources kib sources → IfSome (writes_bytes access sources).stored (AreSources kib)
writes_bytes-fit kib access.Quiet sources are = tt
writes_bytes-fit kib (access.Load address width value device mark) sources are = tt
writes_bytes-fit kib (access.Store address width value true) sources are = tt
writes_bytes-fit kib (access.Store address width value false) sources are = are
writes_bytes-fit kib (access.Swap address old new) sources are = are

writes_bytes-scratch : (kib : ℕ) (access : Access) (sources : Sources) → IfSome (writes_bytes access sources).scratch (AreSources kib)
writes_bytes-scratch kib access.Quiet sources = tt
writes_bytes-scratch kib (access.Load address width value device mark) sources = tt
writes_bytes-scratch kib (access.Store address width value true) sources = tt
writes_bytes-scratch kib (access.Store address width value false) sources = tt
writes_bytes-scratch kib (access.Swap address old new) sources = tt

writes_bytes-result : (kib : ℕ) (access : Access) (sources : Sources) → IfSome (writes_bytes access sources).result (AreSources kib)
writes_bytes-result kib access.Quiet sources = tt
writes_bytes-result kib (access.Load address width value device mark) sources = tt
writes_bytes-result kib (access.Store address width value true) sources = tt
writes_bytes-result kib (access.Store address width value false) sources = tt
writes_bytes-result kib (access.Swap address old new) sources = tt

old_bytes-fit : (kib : ℕ) (access : Access) → AccessFits kib access → AllByRecursion (IsPlace kib) (old_bytes access)
old_bytes-fit kib access.Quiet fits = tt
old_bytes-fit kib (access.Load address width value device mark) fits = tt
old_bytes-fit kib (access.Store address width value device) fits = tt
old_bytes-fit kib (access.Swap address old new) fits = bytes_from-fit kib address 4 fits.within

by_test : (kib : ℕ) (b : Bool) (sources others : Sources) → AreSources kib sources → AreSources kib others → AreSources kib (cond b sources others)
by_test kib true sources others one other = one
by_test kib false sources others one other = other

some_by_test : (kib : ℕ) (b : Bool) (sources : Sources) → AreSources kib sources → IfSome (cond b None (Some sources)) (AreSources kib)
some_by_test kib true sources are = tt
some_by_test kib false sources are = are

operands-fit : (kib : ℕ) (op : RegOp) (rs1 rs2 : ℕ) → AreSources kib (operands op rs1 rs2)
operands-fit kib Xor rs1 rs2 = by_test kib _ unmarked (From (Register rs1 ∷ Register rs2 ∷ [])) tt (tt, (tt, tt))
operands-fit kib Sub rs1 rs2 = by_test kib _ unmarked (From (Register rs1 ∷ Register rs2 ∷ [])) tt (tt, (tt, tt))
operands-fit kib _ rs1 rs2 = (tt, (tt, tt))

atomic-fit : (kib : ℕ) (op : AtomicOp) (rd rs2 : ℕ) (access : Access) → AccessFits kib access → WritesFit kib (atomic_writes op rd rs2 access)
atomic-fit kib Lr rd rs2 access fits = record { result = loaded-fit kib access fits; scratch = tt; stored = tt }
atomic-fit kib Sc rd rs2 access fits = record { result = tt; scratch = writes_bytes-scratch kib access (register rs2); stored = writes_bytes-fit kib access (register rs2) (tt, tt) }
atomic-fit kib Swap rd rs2 access fits = record { result = old_bytes-fit kib access fits; scratch = writes_bytes-scratch kib access (register rs2); stored = writes_bytes-fit kib access (register rs2) (tt, tt) }
atomic-fit kib _ rd rs2 access fits =
    let sources = From (Register rs2 ∷ old_bytes access) in
    record { result = old_bytes-fit kib access fits; scratch = writes_bytes-scratch kib access sources; stored = writes_bytes-fit kib access sources (tt, old_bytes-fit kib access fits) }

scratch-fit : (kib : ℕ) (op : CsrOp) (source : ℕ) → IfSome (scratch_writes op source) (AreSources kib)
scratch-fit kib Csrrw source = (tt, tt)
scratch-fit kib Csrrs source = some_by_test kib _ (From (Scratch ∷ Register source ∷ [])) (tt, (tt, tt))
scratch-fit kib Csrrc source = some_by_test kib _ (From (Scratch ∷ Register source ∷ [])) (tt, (tt, tt))
scratch-fit kib Csrrwi source = tt
scratch-fit kib Csrrsi source = tt
scratch-fit kib Csrrci source = tt

csr-fit : (kib : ℕ) (op : CsrOp) (rd source csr : ℕ) → WritesFit kib (csr_writes op rd source csr)
csr-fit kib op rd source csr = by_case (nat_eq csr 0x340)
  where
    by_case : (b : Bool) → WritesFit kib (cond b (record { rd = rd; result = Some (From (Scratch ∷ [])); scratch = scratch_writes op source; address = 0; width = 0; stored = None }) (record { rd = rd; result = Some unmarked; scratch = None; address = 0; width = 0; stored = None }))
    by_case true = record { result = (tt, tt); scratch = scratch-fit kib op source; stored = tt }
    by_case false = record { result = tt; scratch = tt; stored = tt }

instr-fit : (kib : ℕ) (instr : Instr) (access : Access) → AccessFits kib access → WritesFit kib (writes_by instr access)
instr-fit kib (Lui rd imm) access fits = record { result = tt; scratch = tt; stored = tt }
instr-fit kib (Auipc rd imm) access fits = record { result = tt; scratch = tt; stored = tt }
instr-fit kib (Jal rd imm) access fits = record { result = tt; scratch = tt; stored = tt }
instr-fit kib (Jalr rd rs1 imm) access fits = record { result = tt; scratch = tt; stored = tt }
instr-fit kib (Branch op rs1 rs2 imm) access fits = record { result = tt; scratch = tt; stored = tt }
instr-fit kib (Load op rd rs1 imm) access fits = record { result = loaded-fit kib access fits; scratch = tt; stored = tt }
instr-fit kib (Store op rs1 rs2 imm) access fits = record { result = writes_bytes-result kib access (register rs2); scratch = writes_bytes-scratch kib access (register rs2); stored = writes_bytes-fit kib access (register rs2) (tt, tt) }
instr-fit kib (OpImm op rd rs1 imm) access fits = record { result = (tt, tt); scratch = tt; stored = tt }
instr-fit kib (Op op rd rs1 rs2) access fits = record { result = operands-fit kib op rs1 rs2; scratch = tt; stored = tt }
instr-fit kib (Fence op rd rs1 imm) access fits = record { result = tt; scratch = tt; stored = tt }
instr-fit kib (Atomic op rd rs1 rs2 order) access fits = atomic-fit kib op rd rs2 access fits
instr-fit kib (Csr op rd source csr) access fits = csr-fit kib op rd source csr
instr-fit kib Ecall access fits = record { result = tt; scratch = tt; stored = tt }
instr-fit kib Ebreak access fits = record { result = tt; scratch = tt; stored = tt }
instr-fit kib Mret access fits = record { result = tt; scratch = tt; stored = tt }
instr-fit kib Wfi access fits = record { result = tt; scratch = tt; stored = tt }

as-fit : (kib : ℕ) (instr : Option Instr) (access : Access) → AccessFits kib access → WritesFit kib (writes_as instr access)
as-fit kib None access fits = record { result = tt; scratch = tt; stored = tt }
as-fit kib (Some instr) access fits = instr-fit kib instr access fits

-- the places that an event of a machine names are its places
pub writes_of-fit : (kib : ℕ) (event : Event) → Fits kib event → WritesFit kib (writes_of event)
writes_of-fit kib (Dma step address word mark) fits = record { result = tt; scratch = tt; stored = tt }
writes_of-fit kib (Irq step pc cause next) fits = record { result = tt; scratch = tt; stored = tt }
writes_of-fit kib (Trap step pc word cause value next) fits = record { result = tt; scratch = tt; stored = tt }
writes_of-fit kib (Exec step pc word next result access told) fits = as-fit kib (instruction word) access fits.data_fits

module _ (kib : ℕ) (f g : Place → ℕ) (same : (place : Place) → IsPlace kib place → f place ≡ g place) where
  union_of-same : (places : List Place) → AllByRecursion (IsPlace kib) places → union_of f places ≡ union_of g places
  union_of-same [] fit = refl
  union_of-same (place ∷ places) fit = ap (λ m. union m (union_of f places)) (same place fit.0) ∙ ap (union (g place)) (union_of-same places fit.1)

  mark_of-same : (sources : Sources) → AreSources kib sources → mark_of f sources ≡ mark_of g sources
  mark_of-same (Given mark) are = refl
  mark_of-same (From places) are = union_of-same places are

  mark_or-same : (sources : Option Sources) (place : Place) → IfSome sources (AreSources kib) → IsPlace kib place → mark_or f sources place ≡ mark_or g sources place
  mark_or-same None place are is = same place is
  mark_or-same (Some sources) place are is = mark_of-same sources are

  by_place : (b : Bool) (sources : Option Sources) → IfSome sources (AreSources kib) → IfSome (cond b sources None) (AreSources kib)
  by_place true sources are = are
  by_place false sources are = tt

  sources_in-fit : (writes : Writes) (place : Place) → WritesFit kib writes → IfSome (sources_in writes place) (AreSources kib)
  sources_in-fit writes (Register n) fit = by_place _ writes.result fit.result
  sources_in-fit writes Scratch fit = fit.scratch
  sources_in-fit writes (Byte address) fit = by_place _ writes.stored fit.stored

  -- where two agree on those places
  pub written-same : (event : Event) (place : Place) → Fits kib event → IsPlace kib place → mark_or f (sources_in (writes_of event) place) place ≡ mark_or g (sources_in (writes_of event) place) place
  written-same event place fits is = mark_or-same (sources_in (writes_of event) place) place (sources_in-fit (writes_of event) place (writes_of-fit kib event fits)) is

  marked_jump-same : (instr : Option Instr) → is_marked_jump f instr ≡ is_marked_jump g instr
  marked_jump-same None = refl
  marked_jump-same (Some (Jalr rd rs1 imm)) = ap is_marked (same (Register rs1) tt)
  marked_jump-same (Some _) = refl

  jump-same : (instr : Option Instr) (next : ℕ) → jump f instr next ≡ jump g instr next
  jump-same instr next = ap (λ b. cond b (Some (bad_jump next)) None) (marked_jump-same instr)

  leak-same : (told : Option Announcement) → leak kib f told ≡ leak kib g told
  leak-same None = refl
  leak-same (Some (Allocate start size)) = refl
  leak-same (Some (Free start size)) = refl
  leak-same (Some (Acquire lock)) = refl
  leak-same (Some (Release lock)) = refl
  leak-same (Some (Enter context)) = refl
  leak-same (Some (Check start size)) =
      let to = min (start + min size most_checked) (RAM_START + 1024 * kib) in
      ap (option_map leaked) (least_same (λ a. is_marked (f (Byte a))) (λ a. is_marked (g (Byte a))) (max start RAM_START) (to - max start RAM_START)
      (λ n low high. ap is_marked (same (Byte n) (record { from = omega arith; to = omega arith }))))
  leak-same (Some (Guard start size lock)) = refl

  pub taint_by-same : (event : Event) → taint_by kib f event ≡ taint_by kib g event
  taint_by-same (Dma step address word mark) = refl
  taint_by-same (Irq step pc cause next) = refl
  taint_by-same (Trap step pc word cause value next) = refl
  taint_by-same (Exec step pc word next result access told) =
      ap (λ o. option_or o (leak kib f (announced_by word told))) (jump-same (instruction word) next) ∙ ap (option_or (jump g (instruction word) next)) (leak-same (announced_by word told))
