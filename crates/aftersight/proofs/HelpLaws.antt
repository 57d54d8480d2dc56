-- The help text says the bounds and the statuses that hold.
use Rattle.std.proofs.Common.{refl}
use Rattle.std.specs.Fmt.{digits}
use Rattle.analysis_model.specs.Report.{kind_name}
use Rattle.aftersight.specs.declared.command_line.TheConstants.{HELP}
use Rattle.aftersight.specs.Help.{SaysTheBounds, SaysTheStatuses}

help_says_the_bounds : SaysTheBounds HELP.now
unfolding kind_name digits
help_says_the_bounds = record { ram = refl; steps = refl; log = refl; threads = refl; analyses = refl }

help_says_the_statuses : SaysTheStatuses HELP.now
unfolding digits
help_says_the_statuses = record {
  done = refl;
  finding = refl;
  limit = refl;
  words = λ _. refl;
  image = λ _. refl;
  script = λ _. refl;
  files = refl;
  output = refl;
  memory = refl;
  not_built = refl;
}
