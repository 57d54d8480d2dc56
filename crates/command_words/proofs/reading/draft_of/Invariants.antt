use Rattle.std.proofs.Common.{◌-◌, ◌≤◌, length, map, string_bytes}
use Rattle.command_words.specs.Drafts.{spent}
use Rattle.command_words.proofs.RoleLaws.{HasRead}
use Rattle.command_words.proofs.reading.draft_of.Given as goal

abbrev pub invariant-loop-index : goal.invariant-loop-index
invariant-loop-index l = record {
  few : l.index ≤ spent l.draft;
  so_far : HasRead l.command (map string_bytes l.words) l.index l.draft;
}

abbrev pub decreases-loop-index : goal.decreases-loop-index
decreases-loop-index l = length l.words - l.index
