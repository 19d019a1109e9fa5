use Rattle.std.proofs.Common.{rules}
use Rattle.std.proofs.lemmas.Fn.{always_returns_same}
use Rattle.key_table.proofs.Order.{is_below, orders_places, rises_from_sorted}
use Rattle.key_table.proofs.keys.sort_by_word.Goals as goal

pub returns-clause-rises : goal.returns-clause-rises
returns-clause-rises c =
    rises_from_sorted _ _ (c.sort_unstable_by.ensures.sorted (is_below c.args.words.now) (orders_places c.args.words.now)
    (always_returns_same _ _ _ (λ a r later h. (search rules, search rules))))
