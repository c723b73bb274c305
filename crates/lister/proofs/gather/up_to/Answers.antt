use Rattle.std.proofs.Common.{rules, tests, sym, ◌∙◌, nat_eq}
use Rattle.std.proofs.lemmas.Iterator.{YieldsList-from_slice}
use Rattle.std.proofs.lemmas.Iterator.Search.{position_from_yields_List}
use Rattle.lister.proofs.LineFeeds.{feed_here, feed_never}
use Rattle.lister.proofs.gather.up_to.Goals as goal

pub returns-in-Some-clause-value : goal.returns-in-Some-clause-value
returns-in-Some-clause-value c =
    feed_here c.args.piece.now c.in-Some.i
    (sym (position_from_yields_List (λ x. nat_eq x 10) _ _ c.position.result c.position.ensures.ran (YieldsList-from_slice c.args.piece.now c.iter.ensures.rest) (λ x b q k. search (rules, tests)))
    ∙ c.in-Some.is)

pub returns-in-None-clause-value : goal.returns-in-None-clause-value
returns-in-None-clause-value c =
    feed_never c.args.piece.now
    (sym (position_from_yields_List (λ x. nat_eq x 10) _ _ c.position.result c.position.ensures.ran (YieldsList-from_slice c.args.piece.now c.iter.ensures.rest) (λ x b q k. search (rules, tests)))
    ∙ c.in-None.is)
