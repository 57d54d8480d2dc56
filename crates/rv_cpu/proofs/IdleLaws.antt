-- The words of slti x0, x0, k: they are plain instructions that write x0 alone.
use Rattle.std.proofs.Common.{◌≡◌, ◌∙◌, ℕ, ◌+◌, ◌%◌, ◌^◌, true, Some, length, refl, ap, arith}
use Rattle.memory_map.specs.Ram.{in_ram}
use Rattle.run_events.specs.Announcement.{is_idle_compare}
use Rattle.rv_decode.specs.Fields.{opcode_of, rd_of, funct3_of, rs1_of, immediate_i}
use Rattle.rv_decode.specs.Listing.{instruction}
use Rattle.rv_decode.specs.declared.instruction.Instr.TheVariants.{OpImm}
use Rattle.rv_decode.specs.declared.operations.ImmOp.TheVariants.{Slti}
use Rattle.rv_decode.proofs.ListingLaws.{immediate_words}
use Rattle.rv_memory.specs.Ram.{loaded}
use Rattle.hart_model.specs.State.{State}
use Rattle.hart_model.specs.Step.{outcome}
use Rattle.rv_cpu.specs.Told.{idle_told, next_told, told_decoded}
use Rattle.rv_cpu.proofs.ToldLaws.{told_word}

idle_reads : (word : ℕ) → word % 2 ^ 20 ≡ 8211 → instruction word ≡ Some (OpImm Slti 0 0 (immediate_i word))
idle_reads word idle =
    let o : opcode_of word ≡ 0x13 = omega (arith, idle) in
    let f : funct3_of word ≡ 2 = omega (arith, idle) in
    let d : rd_of word ≡ 0 = omega (arith, idle) in
    let r : rs1_of word ≡ 0 = omega (arith, idle) in
    immediate_words word o ∙ simp (o, f) refl ∙ same (rd_of word) (rs1_of word) d r
  where
    same : (rd rs1 : ℕ) → rd ≡ 0 → rs1 ≡ 0 → Some (OpImm Slti rd rs1 (immediate_i word)) ≡ Some (OpImm Slti 0 0 (immediate_i word))
    same rd rs1 d r = cc

idle_executed : (behind lines : ℕ) (s : State) (word : ℕ) → told_decoded behind lines s word 4 (Some (OpImm Slti 0 0 (immediate_i word))) ≡ Some (idle_told (s.step + behind) word s)
unfolding outcome
idle_executed behind lines s word = refl

pub idle_next : (behind lines : ℕ) (s : State) (word : ℕ) → in_ram (length s.ram) s.pc 4 ≡ true → word ≡ loaded s.ram s.pc 4 → is_idle_compare word ≡ true → next_told behind lines s ≡ Some (idle_told (s.step + behind) word s)
idle_next behind lines s word there is idle =
    told_word behind lines s word there is ∙ ap (told_decoded behind lines s word 4) (idle_reads word (grind (arith, idle))) ∙ idle_executed behind lines s word
