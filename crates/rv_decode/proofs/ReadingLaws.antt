-- What a row reads is valid, and its word is the word that was read.
use Rattle.std.proofs.Common.{◌≡◌, ℕ, ◌+◌, ◌*◌, ◌/◌, ◌%◌, ◌^◌, ◌<◌, pos, arith}
use Rattle.std.proofs.lemmas.Int.{ints}
use Rattle.rv_decode.specs.declared.instruction.Instr.{Instr}
use Rattle.rv_decode.specs.declared.operations.BranchOp.{BranchOp}
use Rattle.rv_decode.specs.declared.operations.LoadOp.{LoadOp}
use Rattle.rv_decode.specs.declared.operations.StoreOp.{StoreOp}
use Rattle.rv_decode.specs.declared.operations.ImmOp.{ImmOp}
use Rattle.rv_decode.specs.declared.operations.RegOp.{RegOp}
use Rattle.rv_decode.specs.declared.operations.FenceOp.{FenceOp}
use Rattle.rv_decode.specs.declared.operations.AtomicOp.{AtomicOp}
use Rattle.rv_decode.specs.declared.operations.CsrOp.{CsrOp}
use Rattle.rv_decode.specs.Fields.{opcode_of, rd_of, funct3_of, rs2_of, funct7_of, funct5_of, signed, immediate_i}
use Rattle.rv_decode.specs.Listing.{lui, auipc, jal, jalr, branch, load, store, immediate, shift, register, fence, atomic, csr}
use Rattle.rv_decode.specs.Valid.{IsSigned, IsMultiple, IsOperand, IsSecond, IsValid}
use Rattle.rv_decode.specs.Words.{branch_code, load_code, store_code, immediate_code, register_code, register_code7, fence_code, atomic_code, csr_code, bits_of, places_j, low_s, high_s, low_b, high_b, immediate_extra, encoded}
use Rattle.rv_decode.proofs.FieldLaws.{split, split_i, split_u, bits_signed_12, bits_signed_13, bits_signed_21, bits_signed_32}

pub record Reading (word : ℕ) (i : Instr) : Type 0 where
  pub valid : IsValid i
  pub back : encoded i ≡ word

-- what is sign extended has so many bits
pub signed_12 : (n : ℕ) → n < 2 ^ 12 → IsSigned 12 (signed 12 n)
signed_12 n fits = (grind (arith, ints), grind (arith, ints))

signed_13 : (n : ℕ) → n < 2 ^ 13 → IsSigned 13 (signed 13 n)
signed_13 n fits = (grind (arith, ints), grind (arith, ints))

signed_21 : (n : ℕ) → n < 2 ^ 21 → IsSigned 21 (signed 21 n)
signed_21 n fits = (grind (arith, ints), grind (arith, ints))

signed_32 : (n : ℕ) → n < 2 ^ 32 → IsSigned 32 (signed 32 n)
signed_32 n fits = (grind (arith, ints), grind (arith, ints))

even_13 : (n : ℕ) → n % 2 ≡ 0 → n < 2 ^ 13 → IsMultiple 2 (signed 13 n)
even_13 n even fits = grind (arith, ints)

even_21 : (n : ℕ) → n % 2 ≡ 0 → n < 2 ^ 21 → IsMultiple 2 (signed 21 n)
even_21 n even fits = grind (arith, ints)

upper_32 : (n : ℕ) → n % 2 ^ 12 ≡ 0 → n < 2 ^ 32 → IsMultiple (2 ^ 12) (signed 32 n)
upper_32 n even fits = grind (arith, ints)

-- the parts of an immediate stand in the fields that it was read from
part_s : (word bits : ℕ) → word < 2 ^ 32 → bits % 2 ^ 12 ≡ word / 2 ^ 25 * 2 ^ 5 + word / 2 ^ 7 % 2 ^ 5 → (low_s bits ≡ rd_of word) × (high_s bits ≡ funct7_of word)
part_s word bits fits e = (omega arith, omega arith)

part_b : (word bits : ℕ) → word < 2 ^ 32 → bits % 2 ^ 13 ≡ word / 2 ^ 31 * 2 ^ 12 + word / 2 ^ 7 % 2 * 2 ^ 11 + word / 2 ^ 25 % 2 ^ 6 * 2 ^ 5 + word / 2 ^ 8 % 2 ^ 4 * 2 → (low_b bits ≡ rd_of word) × (high_b bits ≡ funct7_of word)
part_b word bits fits e = (omega arith, omega arith)

part_j : (word bits : ℕ) → word < 2 ^ 32 → bits % 2 ^ 21 ≡ word / 2 ^ 31 * 2 ^ 20 + word / 2 ^ 12 % 2 ^ 8 * 2 ^ 12 + word / 2 ^ 20 % 2 * 2 ^ 11 + word / 2 ^ 21 % 2 ^ 10 * 2 → places_j bits ≡ word / 2 ^ 12
part_j word bits fits e = omega arith

-- each kind of row
pub reads_lui : (word : ℕ) → word < 2 ^ 32 → opcode_of word ≡ 0x37 → Reading word (lui word)
unfolding encoded
reads_lui word fits o =
    let n = word / 2 ^ 12 * 2 ^ 12 in
    let below : n < 2 ^ 32 = omega (arith, fits) in
    record {
      valid = (omega arith, signed_32 n below, upper_32 n (omega arith) below);
      back = let bits = bits_signed_32 n below in omega (arith, bits, o, split_u word);
    }

pub reads_auipc : (word : ℕ) → word < 2 ^ 32 → opcode_of word ≡ 0x17 → Reading word (auipc word)
unfolding encoded
reads_auipc word fits o =
    let n = word / 2 ^ 12 * 2 ^ 12 in
    let below : n < 2 ^ 32 = omega (arith, fits) in
    record {
      valid = (omega arith, signed_32 n below, upper_32 n (omega arith) below);
      back = let bits = bits_signed_32 n below in omega (arith, bits, o, split_u word);
    }

pub reads_jal : (word : ℕ) → word < 2 ^ 32 → opcode_of word ≡ 0x6f → Reading word (jal word)
unfolding encoded
reads_jal word fits o =
    let n = word / 2 ^ 31 * 2 ^ 20 + word / 2 ^ 12 % 2 ^ 8 * 2 ^ 12 + word / 2 ^ 20 % 2 * 2 ^ 11 + word / 2 ^ 21 % 2 ^ 10 * 2 in
    let below : n < 2 ^ 21 = omega (arith, fits) in
    record {
      valid = (omega arith, signed_21 n below, even_21 n (omega arith) below);
      back = let upper = part_j word (bits_of (signed 21 n)) fits (bits_signed_21 n below) in omega (arith, upper, o, split_u word);
    }

pub reads_jalr : (word : ℕ) → word < 2 ^ 32 → opcode_of word ≡ 0x67 → funct3_of word ≡ 0 → Reading word (jalr word)
unfolding encoded
reads_jalr word fits o f =
    let n = word / 2 ^ 20 in
    let below : n < 2 ^ 12 = omega (arith, fits) in
    record {
      valid = (omega arith, omega arith, signed_12 n below);
      back = let bits = bits_signed_12 n below in omega (arith, bits, o, f, split_i word);
    }

pub reads_branch : (op : BranchOp) (word : ℕ) → word < 2 ^ 32 → opcode_of word ≡ 0x63 → funct3_of word ≡ branch_code op → Reading word (branch op word)
unfolding encoded
reads_branch op word fits o f =
    let n = word / 2 ^ 31 * 2 ^ 12 + word / 2 ^ 7 % 2 * 2 ^ 11 + word / 2 ^ 25 % 2 ^ 6 * 2 ^ 5 + word / 2 ^ 8 % 2 ^ 4 * 2 in
    let below : n < 2 ^ 13 = omega (arith, fits) in
    record {
      valid = (omega arith, omega arith, signed_13 n below, even_13 n (omega arith) below);
      back = let parts = part_b word (bits_of (signed 13 n)) fits (bits_signed_13 n below) in omega (arith, parts.0, parts.1, o, f, split word);
    }

pub reads_load : (op : LoadOp) (word : ℕ) → word < 2 ^ 32 → opcode_of word ≡ 0x03 → funct3_of word ≡ load_code op → Reading word (load op word)
unfolding encoded
reads_load op word fits o f =
    let n = word / 2 ^ 20 in
    let below : n < 2 ^ 12 = omega (arith, fits) in
    record {
      valid = (omega arith, omega arith, signed_12 n below);
      back = let bits = bits_signed_12 n below in omega (arith, bits, o, f, split_i word);
    }

pub reads_store : (op : StoreOp) (word : ℕ) → word < 2 ^ 32 → opcode_of word ≡ 0x23 → funct3_of word ≡ store_code op → Reading word (store op word)
unfolding encoded
reads_store op word fits o f =
    let n = word / 2 ^ 25 * 2 ^ 5 + word / 2 ^ 7 % 2 ^ 5 in
    let below : n < 2 ^ 12 = omega (arith, fits) in
    record {
      valid = (omega arith, omega arith, signed_12 n below);
      back = let parts = part_s word (bits_of (signed 12 n)) fits (bits_signed_12 n below) in omega (arith, parts.0, parts.1, o, f, split word);
    }

pub reads_register : (op : RegOp) (word : ℕ) → word < 2 ^ 32 → opcode_of word ≡ 0x33 → funct3_of word ≡ register_code op → funct7_of word ≡ register_code7 op → Reading word (register op word)
unfolding encoded
reads_register op word fits o f g = record {
  valid = (omega arith, omega arith, omega arith);
  back = omega (arith, o, f, g, split word);
}

pub reads_fence : (op : FenceOp) (word : ℕ) → word < 2 ^ 32 → opcode_of word ≡ 0x0f → funct3_of word ≡ fence_code op → Reading word (fence op word)
unfolding encoded
reads_fence op word fits o f =
    let n = word / 2 ^ 20 in
    let below : n < 2 ^ 12 = omega (arith, fits) in
    record {
      valid = (omega arith, omega arith, signed_12 n below);
      back = let bits = bits_signed_12 n below in omega (arith, bits, o, f, split_i word);
    }

pub reads_csr : (op : CsrOp) (word : ℕ) → word < 2 ^ 32 → opcode_of word ≡ 0x73 → funct3_of word ≡ csr_code op → Reading word (csr op word)
unfolding encoded
reads_csr op word fits o f = record {
  valid = (omega arith, omega arith, omega (arith, fits));
  back = omega (arith, o, f, split_i word);
}

pub reads_atomic : (op : AtomicOp) (word : ℕ) → word < 2 ^ 32 → opcode_of word ≡ 0x2f → funct3_of word ≡ 2 → funct5_of word ≡ atomic_code op → IsSecond op (rs2_of word) → Reading word (atomic op word)
unfolding encoded
reads_atomic op word fits o f g second = record {
  valid = (omega arith, omega arith, second, omega arith);
  back = omega (arith, o, f, g, split word);
}

-- the operations on an immediate but for the shifts
pub reads_immediate : (op : ImmOp) (word : ℕ) → word < 2 ^ 32 → IsOperand op (immediate_i word) → immediate_extra op ≡ 0 → opcode_of word ≡ 0x13 → funct3_of word ≡ immediate_code op → Reading word (immediate op word)
unfolding encoded
reads_immediate op word fits operand extra o f =
    let n = word / 2 ^ 20 in
    let below : n < 2 ^ 12 = omega (arith, fits) in
    record {
      valid = (omega arith, omega arith, operand);
      back = let bits = bits_signed_12 n below in omega (arith, bits, extra, o, f, split_i word);
    }

pub reads_shift : (op : ImmOp) (word : ℕ) → word < 2 ^ 32 → IsOperand op (pos (rs2_of word)) → opcode_of word ≡ 0x13 → funct3_of word ≡ immediate_code op → funct7_of word * 2 ^ 5 ≡ immediate_extra op → Reading word (shift op word)
unfolding encoded
reads_shift op word fits operand o f g = record {
  valid = (omega arith, omega arith, operand);
  back = omega (arith, o, f, g, split_i word);
}
