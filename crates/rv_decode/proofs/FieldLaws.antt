-- A word from its fields, and its fields from the word; the bits of an immediate.
use Rattle.std.proofs.Common.{◌≡◌, ℕ, ◌/◌, ◌%◌, ◌^◌, ◌<◌, ℤ, arith}
use Rattle.std.proofs.lemmas.Int.{ints}
use Rattle.rv_decode.specs.Fields.{opcode_of, rd_of, funct3_of, rs1_of, rs2_of, funct7_of, funct12_of, signed}
use Rattle.rv_decode.specs.Valid.{IsSigned}
use Rattle.rv_decode.specs.Words.{joined, joined_i, joined_u, bits_of}

-- a word is its fields in their places
pub split : (word : ℕ) → joined (opcode_of word) (rd_of word) (funct3_of word) (rs1_of word) (rs2_of word) (funct7_of word) ≡ word
split word = omega arith

pub split_i : (word : ℕ) → joined_i (opcode_of word) (rd_of word) (funct3_of word) (rs1_of word) (funct12_of word) ≡ word
split_i word = omega arith

pub split_u : (word : ℕ) → joined_u (opcode_of word) (rd_of word) (word / 2 ^ 12) ≡ word
split_u word = omega arith

-- fields in their places are the word's fields
pub record Fields (word opcode rd funct3 rs1 rs2 funct7 : ℕ) : Type 0 where
  pub opcode_is : opcode_of word ≡ opcode
  pub rd_is : rd_of word ≡ rd
  pub funct3_is : funct3_of word ≡ funct3
  pub rs1_is : rs1_of word ≡ rs1
  pub rs2_is : rs2_of word ≡ rs2
  pub funct7_is : funct7_of word ≡ funct7

pub fields_of_joined : (opcode rd funct3 rs1 rs2 funct7 : ℕ) → opcode < 2 ^ 7 → rd < 2 ^ 5 → funct3 < 2 ^ 3 → rs1 < 2 ^ 5 → rs2 < 2 ^ 5 → Fields (joined opcode rd funct3 rs1 rs2 funct7) opcode rd funct3 rs1 rs2 funct7
fields_of_joined opcode rd funct3 rs1 rs2 funct7 a b c d e = record {
  opcode_is = omega arith;
  rd_is = omega arith;
  funct3_is = omega arith;
  rs1_is = omega arith;
  rs2_is = omega arith;
  funct7_is = omega arith;
}

pub record FieldsI (word opcode rd funct3 rs1 funct12 : ℕ) : Type 0 where
  pub opcode_is : opcode_of word ≡ opcode
  pub rd_is : rd_of word ≡ rd
  pub funct3_is : funct3_of word ≡ funct3
  pub rs1_is : rs1_of word ≡ rs1
  pub funct12_is : funct12_of word ≡ funct12

pub fields_of_joined_i : (opcode rd funct3 rs1 funct12 : ℕ) → opcode < 2 ^ 7 → rd < 2 ^ 5 → funct3 < 2 ^ 3 → rs1 < 2 ^ 5 → FieldsI (joined_i opcode rd funct3 rs1 funct12) opcode rd funct3 rs1 funct12
fields_of_joined_i opcode rd funct3 rs1 funct12 a b c d = record {
  opcode_is = omega arith;
  rd_is = omega arith;
  funct3_is = omega arith;
  rs1_is = omega arith;
  funct12_is = omega arith;
}

pub record FieldsU (word opcode rd upper : ℕ) : Type 0 where
  pub opcode_is : opcode_of word ≡ opcode
  pub rd_is : rd_of word ≡ rd
  pub upper_is : word / 2 ^ 12 ≡ upper

pub fields_of_joined_u : (opcode rd upper : ℕ) → opcode < 2 ^ 7 → rd < 2 ^ 5 → FieldsU (joined_u opcode rd upper) opcode rd upper
fields_of_joined_u opcode rd upper a b = record {
  opcode_is = omega arith;
  rd_is = omega arith;
  upper_is = omega arith;
}

-- the bits of a number that was sign extended
pub bits_signed_12 : (n : ℕ) → n < 2 ^ 12 → bits_of (signed 12 n) % 2 ^ 12 ≡ n
bits_signed_12 n fits = grind (arith, ints)

pub bits_signed_13 : (n : ℕ) → n < 2 ^ 13 → bits_of (signed 13 n) % 2 ^ 13 ≡ n
bits_signed_13 n fits = grind (arith, ints)

pub bits_signed_21 : (n : ℕ) → n < 2 ^ 21 → bits_of (signed 21 n) % 2 ^ 21 ≡ n
bits_signed_21 n fits = grind (arith, ints)

pub bits_signed_32 : (n : ℕ) → n < 2 ^ 32 → bits_of (signed 32 n) ≡ n
bits_signed_32 n fits = grind (arith, ints)

-- an immediate in range is its bits, sign extended
pub signed_bits_12 : (z : ℤ) → IsSigned 12 z → signed 12 (bits_of z % 2 ^ 12) ≡ z
signed_bits_12 z fits = grind (arith, ints, fits.0, fits.1)

pub signed_bits_13 : (z : ℤ) → IsSigned 13 z → signed 13 (bits_of z % 2 ^ 13) ≡ z
signed_bits_13 z fits = grind (arith, ints, fits.0, fits.1)

pub signed_bits_21 : (z : ℤ) → IsSigned 21 z → signed 21 (bits_of z % 2 ^ 21) ≡ z
signed_bits_21 z fits = grind (arith, ints, fits.0, fits.1)

pub signed_bits_32 : (z : ℤ) → IsSigned 32 z → signed 32 (bits_of z) ≡ z
signed_bits_32 z fits = grind (arith, ints, fits.0, fits.1)
