use Rattle.std.proofs.Common.{◌&&◌, ◌==◌, get_or, sym, ◌∙◌, arith}
use Rattle.std.proofs.lemmas.Bool.{and_left}
use Rattle.file_laws.specs.Build.{place_of}
use Rattle.tree_file.specs.Passes.{is_bare_group}
use Rattle.tree_file.proofs.empty.has_none_left.Goals as goal

pub bounds-counts-place : goal.bounds-counts-place
bounds-counts-place c = let is = c.place.ensures in let here = c.requires.here in omega (arith, is, here)

pub returns-then-is_bare_group : goal.returns-then-is_bare_group
returns-then-is_bare_group c =
    (λ j. get_or c.args.counts.now (c.place.ensures j) 0 == 0)
    ∙ (λ j. (sym (sym c.is_bare_group.ensures ∙ c.if-is_bare_group.true)) j && (get_or c.args.counts.now (place_of c.args.item.now) 0 == 0))

pub returns-else-is_bare_group : goal.returns-else-is_bare_group
returns-else-is_bare_group c =
    c.if-is_bare_group.false
    ∙ sym (and_left (is_bare_group c.args.item.now) (get_or c.args.counts.now (place_of c.args.item.now) 0 == 0) (sym c.is_bare_group.ensures ∙ c.if-is_bare_group.false))
