-- What a step has to be given, read off its instruction.
use Rattle.std.specs.Prelude.{ℕ, ◌%◌, ◌==◌, length, if◌then◌else◌}
use Rattle.memory_map.specs.Device.{is_device}
use Rattle.memory_map.specs.Ram.{in_ram}
use Rattle.run_events.specs.declared.supply.Need.{Need}
use Rattle.run_events.specs.declared.supply.Need.TheVariants.{Load, Nothing}
use Rattle.rv_decode.specs.declared.instruction.Instr.{Instr}
use Rattle.rv_decode.specs.declared.instruction.Instr.TheVariants as instr
use Rattle.hart_model.specs.Operations.{bits, sum, load_width}
use Rattle.hart_model.specs.State.{State, register}

-- an aligned load outside RAM needs the device register that begins there, if one does
abbrev pub need_at : State → (address width : ℕ) → Need
need_at s address width =
    if address % width == 0
    then (if in_ram (length s.ram) address width then Nothing
    else (if is_device address then Load address width else Nothing))
    else Nothing

-- and no other instruction needs anything
abbrev pub need_by : State → Instr → Need
need_by s (instr.Load op rd rs1 imm) = need_at s (sum (register s rs1) (bits imm)) (load_width op)
need_by s _ = Nothing
