-- What a jump tells of calls and returns: the hints by which a return-address stack is kept. (Unprivileged manual, 2.5.)
use Rattle.std.specs.Prelude.{ℕ, Bool, true, false, ◌||◌, ◌==◌, if◌then◌else◌}
use Rattle.rv_decode.specs.declared.instruction.Instr.{Instr}
use Rattle.rv_decode.specs.declared.instruction.Instr.TheVariants.{Jal, Jalr}
use Rattle.rv_decode.specs.declared.links.Link.{Link}
use Rattle.rv_decode.specs.declared.links.Link.TheVariants.{Plain, Push, Pop, PopPush}

-- x1 and x5 hold return addresses
abbrev pub is_link : ℕ → Bool
is_link register = register == 1 || register == 5

-- JALR, by whether rd and rs1 are link registers and whether they are the same
abbrev pub hint : (rd_links rs1_links same : Bool) → Link
hint false false same = Plain
hint false true same = Pop
hint true false same = Push
hint true true false = PopPush
hint true true true = Push

abbrev pub link_of : Instr → Link
link_of (Jal rd imm) = if is_link rd then Push else Plain
link_of (Jalr rd rs1 imm) = hint (is_link rd) (is_link rs1) (rd == rs1)
link_of _ = Plain
