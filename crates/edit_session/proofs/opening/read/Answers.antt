use Rattle.std.proofs.Common.{sym, subst}
use Rattle.map_model.specs.Tree.{whole}
use Rattle.map_opening.specs.Opening.{Tree, Opens}
use Rattle.edit_session.proofs.Opens.{noted, noted_in_part, refused_unread}
use Rattle.edit_session.proofs.opening.read.Goals as goal

pub returns-in-Ok-clause-ok : goal.returns-in-Ok-clause-ok
returns-in-Ok-clause-ok g c =
    noted c.with_notes.result c.in-Ok.opened.0 c.as_slice.result.now c.args.bytes.now (g.R.Sink.given c.args.replies.now) (g.R.Sink.given c.with_notes.new.replies)
    (subst (λ l. Opens c.args.bytes.now (Tree (whole c.in-Ok.opened.0) l)) (sym c.as_slice.ensures.value) c.in-Ok.ensures.opened) c.with_notes.ensures.ok

pub returns-in-Ok-clause-err : goal.returns-in-Ok-clause-err
returns-in-Ok-clause-err g c =
    noted_in_part c.with_notes.result c.in-Ok.opened.0 c.as_slice.result.now c.args.bytes.now (g.R.Sink.given c.args.replies.now) (g.R.Sink.given c.with_notes.new.replies)
    (subst (λ l. Opens c.args.bytes.now (Tree (whole c.in-Ok.opened.0) l)) (sym c.as_slice.ensures.value) c.in-Ok.ensures.opened) c.with_notes.ensures.err

pub returns-in-Err-clause-err : goal.returns-in-Err-clause-err
returns-in-Err-clause-err g c =
    refused_unread c.refuse.result c.in-Err.fault c.args.bytes.now (g.R.Sink.given c.args.replies.now) (g.R.Sink.given c.refuse.new.replies)
    c.in-Err.ensures.refused c.refuse.ensures.given
