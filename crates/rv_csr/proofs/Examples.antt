-- Writes by address, and the interrupts that are then pending.
use Rattle.std.proofs.Common.{◌≡◌, ℕ, [], ◌∷◌, Option, None, Some, refl}
use Rattle.std.specs.Option.{unwrap_or}
use Rattle.rv_csr.specs.declared.csrs.Csrs.{Csrs}
use Rattle.rv_csr.specs.Csrs.{reset}
use Rattle.rv_csr.specs.Table.{read, written, rows}
use Rattle.rv_csr.specs.Traps.{pending}

abbrev with : Csrs → (address value : ℕ) → Csrs
with c address value = unwrap_or (written c address value) c

-- mie has both interrupts, and mstatus.MIE is set or clear
abbrev listening : Csrs
listening = with (with reset 0x304 0x880) 0x300 8

abbrev deaf : Csrs
deaf = with listening 0x300 0

-- the external interrupt comes before the timer's, and none where MIE is clear
taken : pending listening 3 ∷ pending listening 2 ∷ pending listening 1 ∷ pending listening 0 ∷ [] ≡ Some 0x8000000b ∷ Some 0x8000000b ∷ Some 0x80000007 ∷ None ∷ []
unfolding written rows
taken = refl

not_taken : pending deaf 3 ∷ pending deaf 1 ∷ pending deaf 0 ∷ [] ≡ None ∷ None ∷ None ∷ []
unfolding written rows
not_taken = refl

-- what reads after a write of all ones: mstatus, misa, mie, mtvec, mscratch, mepc, mip, the first and the last register
-- of memory protection, and mcycle
abbrev all_ones : (address : ℕ) → Option ℕ
all_ones address = read (with reset address 0xffffffff) address 3

kept :
    all_ones 0x300 ∷ all_ones 0x301 ∷ all_ones 0x304 ∷ all_ones 0x305 ∷ all_ones 0x340 ∷ all_ones 0x341 ∷ all_ones 0x344 ∷ all_ones 0x3a0 ∷ all_ones 0x3ef ∷ all_ones 0xb00 ∷ all_ones 0xb80 ∷ []
    ≡ Some 0x1888 ∷ Some 0x40001101 ∷ Some 0x880 ∷ Some 0xfffffffd ∷ Some 0xffffffff ∷ Some 0xfffffffc ∷ Some 0x880 ∷ Some 0 ∷ Some 0 ∷ Some 0xffffffff ∷ Some 0xffffffff ∷ []
unfolding read written rows
kept = refl

-- the registers beside these, and those of the other levels, are not there: cycle, mcounteren, medeleg, 0x3f0 and 0xb01
absent : read reset 0xc00 0 ∷ read reset 0x306 0 ∷ read reset 0x302 0 ∷ read reset 0x3f0 0 ∷ read reset 0xb01 0 ∷ [] ≡ None ∷ None ∷ None ∷ None ∷ None ∷ []
unfolding read rows
absent = refl
