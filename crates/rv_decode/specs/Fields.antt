-- The fields of a word and the immediates that it spells. (Unprivileged manual, 2.2 and 2.3.)
use Rattle.std.specs.Prelude.{ℕ, ◌+◌, ◌-◌, ◌*◌, ◌/◌, ◌%◌, ◌^◌, nat_lt, ℤ, pos, ◌-ℤ◌, if◌then◌else◌}

abbrev pub opcode_of : ℕ → ℕ
opcode_of word = word % 2 ^ 7

abbrev pub rd_of : ℕ → ℕ
rd_of word = word / 2 ^ 7 % 2 ^ 5

abbrev pub funct3_of : ℕ → ℕ
funct3_of word = word / 2 ^ 12 % 2 ^ 3

abbrev pub rs1_of : ℕ → ℕ
rs1_of word = word / 2 ^ 15 % 2 ^ 5

abbrev pub rs2_of : ℕ → ℕ
rs2_of word = word / 2 ^ 20 % 2 ^ 5

abbrev pub funct7_of : ℕ → ℕ
funct7_of word = word / 2 ^ 25

-- an atomic's operation, and its acquire and release bits
abbrev pub funct5_of : ℕ → ℕ
funct5_of word = word / 2 ^ 27

abbrev pub order_of : ℕ → ℕ
order_of word = word / 2 ^ 25 % 2 ^ 2

-- the upper twelve bits: a CSR's address, and what tells the instructions without operands apart
abbrev pub funct12_of : ℕ → ℕ
funct12_of word = word / 2 ^ 20

-- so many bits, sign extended
abbrev pub signed : ℕ → ℕ → ℤ
signed bits n = if nat_lt n (2 ^ (bits - 1)) then pos n else pos n -ℤ pos (2 ^ bits)

-- bits 31:20
abbrev pub immediate_i : ℕ → ℤ
immediate_i word = signed 12 (word / 2 ^ 20)

-- bits 31:25, then 11:7
abbrev pub immediate_s : ℕ → ℤ
immediate_s word = signed 12 (word / 2 ^ 25 * 2 ^ 5 + word / 2 ^ 7 % 2 ^ 5)

-- bit 31, bit 7, bits 30:25, bits 11:8, then a 0
abbrev pub immediate_b : ℕ → ℤ
immediate_b word = signed 13 (word / 2 ^ 31 * 2 ^ 12 + word / 2 ^ 7 % 2 * 2 ^ 11 + word / 2 ^ 25 % 2 ^ 6 * 2 ^ 5 + word / 2 ^ 8 % 2 ^ 4 * 2)

-- bits 31:12, then twelve zeros
abbrev pub immediate_u : ℕ → ℤ
immediate_u word = signed 32 (word / 2 ^ 12 * 2 ^ 12)

-- bit 31, bits 19:12, bit 20, bits 30:21, then a 0
abbrev pub immediate_j : ℕ → ℤ
immediate_j word = signed 21 (word / 2 ^ 31 * 2 ^ 20 + word / 2 ^ 12 % 2 ^ 8 * 2 ^ 12 + word / 2 ^ 20 % 2 * 2 ^ 11 + word / 2 ^ 21 % 2 ^ 10 * 2)
