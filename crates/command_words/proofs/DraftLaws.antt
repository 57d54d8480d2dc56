-- The value of an option, once it is kept.
use Rattle.std.proofs.Common.{◌≡◌, ℕ, ◌+◌, ◌<◌, ◌==◌, if◌then◌else◌, cond, List, length, set, get_or, Option, Some, None, is_some, option_map, inl, inr, refl, sym, arith}
use Rattle.std.specs.List.{count_by}
use Rattle.std.proofs.lemmas.Bool.{cases_eq, eq-eqb, ne_eqb}
use Rattle.std.proofs.lemmas.List.{get_or-set_other}
use Rattle.std.proofs.lemmas.List.Sums.{sum_by-set}
use Rattle.std.proofs.lemmas.Grind.{get_or-set_at}
use Rattle.command_words.specs.declared.draft.Given.{Given}
use Rattle.command_words.specs.declared.table.Setting.{Setting}
use Rattle.command_words.specs.declared.table.Setting.TheVariants.{Disk, Mode, With, Require, Ram, Steps, Log, Threads, Turns}
use Rattle.command_words.specs.Table.{place}
use Rattle.command_words.specs.Drafts.{seen}

pub place_below : (setting : Setting) → place setting < 9
place_below Disk = omega arith
place_below Mode = omega arith
place_below With = omega arith
place_below Require = omega arith
place_below Ram = omega arith
place_below Steps = omega arith
place_below Log = omega arith
place_below Threads = omega arith
place_below Turns = omega arith

pub put_values : (values : List (Option Given)) (setting other : Setting) (given : Given) → length values ≡ 9 → option_map seen (get_or (set values (place setting) (Some given)) (place other) None) ≡ (if place setting == place other then Some (seen given) else option_map seen (get_or values (place other) None))
put_values values setting other given whole =
    let below : place setting < length values = let h = place_below setting in omega arith in
    elim (cases_eq (place setting) (place other)) [
      | inl e ↦ rw (eq-eqb (place setting) (place other) e, get_or-set_at values (place setting) (place other) (Some given) None (sym e) below) refl
      | inr ne ↦ rw (ne_eqb (place setting) (place other) ne, get_or-set_other values (place setting) (place other) (Some given) None (λ e. ne (sym e))) refl
    ]

none_held : (o : Option Given) → option_map seen o ≡ None → is_some o ≡ is_some {T = Given} None
none_held None e = refl
none_held (Some given) e = absurd (let h : Some (seen given) ≡ None = e in cc)

abbrev one_of : Option Given → ℕ
one_of o = cond (is_some o) 1 0

pub put_count : (values : List (Option Given)) (setting : Setting) (given : Given) → length values ≡ 9 → option_map seen (get_or values (place setting) None) ≡ None → count_by is_some (set values (place setting) (Some given)) ≡ count_by is_some values + 1
put_count values setting given whole none =
    let below : place setting < length values = let h = place_below setting in omega arith in
    let before : one_of (get_or values (place setting) None) ≡ 0 = rw (none_held (get_or values (place setting) None) none) refl in
    omega (arith, before, sum_by-set one_of values (place setting) (Some given) None below)
