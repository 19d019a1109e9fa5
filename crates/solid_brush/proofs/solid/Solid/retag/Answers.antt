use Rattle.std.proofs.Common.{◌∙◌, ◌+◌, ◌^◌, ◌<◌, map, ap, sym, subst}
use Rattle.algebra.specs.Members.{Every}
use Rattle.solid_brush.specs.Sides.{with_base}
use Rattle.solid_brush.specs.Cutting.{IsKeptSolid}
use Rattle.solid_brush.proofs.Retagged.{retagged, kept_with_base, room_of}
use Rattle.solid_brush.proofs.solid.Solid.retag.Goals as goal

pub retag-requires : goal.retag-requires
retag-requires c = record { room = room_of c.args.base c.self.inside.sides.items c.self.inside.poly c.self.invariant.same (subst (Every (λ s. s.tag + c.args.base < 2 ^ 31)) (sym c.self.view_is) c.requires.room) }

pub invariant_of-self : goal.invariant_of-self
invariant_of-self c =
    let old = c.self.inside.sides.items in
    subst (λ sides. IsKeptSolid sides c.retag.new.self)
    (sym (retagged c.args.base c.self.inside.sides.len old c.deref_mut.result.now c.add_to_tags.new.sides c.deref_mut.ensures.value c.deref_mut.ensures.len c.add_to_tags.ensures))
    (kept_with_base c.args.base old c.self.inside.poly c.retag.new.self c.self.invariant (subst (Every (λ s. s.tag + c.args.base < 2 ^ 31)) (sym c.self.view_is) c.requires.room) c.retag.ensures.tags)

pub returns : goal.returns
returns c =
    record {
      tags = retagged c.args.base c.self.inside.sides.len c.self.inside.sides.items c.deref_mut.result.now c.add_to_tags.new.sides c.deref_mut.ensures.value c.deref_mut.ensures.len c.add_to_tags.ensures
          ∙ ap (map (with_base c.args.base)) c.self.view_is;
    }
