-- What is told on the error sink: a line for each thing that may go wrong.
use Rattle.std.specs.Prelude.{ℕ, List, ◌++◌, codes, decimal}
use Rattle.analysis_model.specs.Report.{line}
use Rattle.command_words.specs.declared.fault.WordsFault.{WordsFault}
use Rattle.command_words.specs.declared.fault.WordsFault.TheVariants as words
use Rattle.elf_image.specs.declared.fault.ImageFault.{ImageFault}
use Rattle.elf_image.specs.declared.fault.ImageFault.TheVariants as image
use Rattle.in_script.specs.declared.fault.ScriptFault.{ScriptFault}
use Rattle.in_script.specs.declared.fault.ScriptFault.TheVariants as script
use Rattle.run_inputs.specs.declared.fault.InputFault.{InputFault}
use Rattle.run_inputs.specs.declared.fault.InputFault.TheVariants as input
use Rattle.refusals.specs.declared.refusal.Refusal.{Refusal}
use Rattle.refusals.specs.declared.refusal.Refusal.TheVariants.{Words, NotBuilt, Inputs, NoMemory}

unfoldable pub output_failed_line : List ℕ
output_failed_line = line (codes "output failed")

unfoldable pub not_built_line : List ℕ
not_built_line = line (codes "not built")

unfoldable pub no_memory_line : List ℕ
no_memory_line = line (codes "no memory")

-- words count from 1
unfoldable pub words_line : WordsFault → List ℕ
words_line (words.Word number) = line (codes "words: word " ++ decimal number)
words_line words.Missing = line (codes "words: missing")

unfoldable pub files_failed_line : List ℕ
files_failed_line = line (codes "files: failed")

unfoldable pub image_long_line : List ℕ
image_long_line = line (codes "image: too long")

unfoldable pub script_long_line : List ℕ
script_long_line = line (codes "script: too long")

unfoldable pub disk_long_line : List ℕ
disk_long_line = line (codes "disk: too long")

-- segments are told by the numbers of their headers
unfoldable pub segment_line : ℕ → List ℕ → List ℕ
segment_line index what = line (codes "image: segment " ++ decimal index ++ what)

unfoldable pub overlap_line : ℕ → ℕ → List ℕ
overlap_line first second =
    line (codes "image: segments " ++ decimal first ++ codes " " ++ decimal second
    ++ codes " overlap")

unfoldable pub image_line : ImageFault → List ℕ
image_line (image.Short need) = line (codes "image: short need " ++ decimal need)
image_line (image.NotThis field) = line (codes "image: not this field " ++ decimal field)
image_line image.BadTable = line (codes "image: bad table")
image_line (image.SegmentShape index) = segment_line index (codes " shape")
image_line (image.SegmentOutside index) = segment_line index (codes " outside")
image_line (image.Overlap first second) = overlap_line first second
image_line image.NoSegment = line (codes "image: no segment")
image_line image.EntryOutside = line (codes "image: entry outside")
image_line image.NoMemory = no_memory_line

-- lines count from 1
unfoldable pub script_line : ℕ → List ℕ → List ℕ
script_line number what = line (codes "script: line " ++ decimal number ++ what)

abbrev pub script_fault_line : ScriptFault → List ℕ
script_fault_line (script.BadLine number) = script_line number (codes " bad")
script_fault_line (script.BadNumber number) = script_line number (codes " number")
script_fault_line (script.Falling number) = script_line number (codes " falling")
script_fault_line (script.TooMany number) = script_line number (codes " too many")
script_fault_line script.NoMemory = no_memory_line

abbrev pub input_line : InputFault → List ℕ
input_line input.Files = files_failed_line
input_line input.ImageTooLong = image_long_line
input_line input.ScriptTooLong = script_long_line
input_line input.DiskTooLong = disk_long_line
input_line (input.Image fault) = image_line fault
input_line (input.Script fault) = script_fault_line fault
input_line input.NoMemory = no_memory_line

abbrev pub refusal_line : Refusal → List ℕ
refusal_line (Words fault) = words_line fault
refusal_line NotBuilt = not_built_line
refusal_line (Inputs fault) = input_line fault
refusal_line NoMemory = no_memory_line
