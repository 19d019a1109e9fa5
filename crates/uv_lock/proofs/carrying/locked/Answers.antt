use Rattle.std.proofs.Common.{◌≡◌, ◌∙◌, ◌∷◌, [], true, Some, None, length, lit<, rules, sym, ap}
use Rattle.orient48.specs.Orients.{matrix_of}
use Rattle.uv_lock.specs.Carry.{carried_tex, lost_offset, turned_by}
use Rattle.uv_lock.specs.Fractions.{fraction_of}
use Rattle.uv_lock.specs.declared.texture.Tex.TheVariants.{Valve}
use Rattle.uv_lock.proofs.Locks.{passed_on, along, first_lost, second_lost, both_kept, first_offset, second_offset}
use Rattle.uv_lock.proofs.carrying.locked.Goals as goal

pub returns-in_err-u-clause-lost : goal.returns-in_err-u-clause-lost
returns-in_err-u-clause-lost c =
    let r = c.args.m.now in let t = c.args.tex in
    let offs : length t.off ≡ 2 = search rules in
    let scales : length t.scale ≡ 2 = search rules in
    let u = along r t 0 c.turned_axes-axis.result (matrix_of c.orient.result) c.shift-shift.result c.index-tex-0.result c.index-tex-0-2.result offs scales (lit< tt) c.index-tex-0.is c.index-tex-0-2.is
    c.turned_axes-axis.ensures c.orient.ensures c.shift-shift.ensures.shift in
    passed_on (λ fault. carried_tex true r (Valve t) ≡ None) c.from_residual.result c.in_err-u.field-0.0 c.from_residual.ensures.1
    (first_lost r t (sym u.kept ∙ c.in_err-u.ensures.lost))

pub returns-in_err-u-clause-offset : goal.returns-in_err-u-clause-offset
returns-in_err-u-clause-offset c =
    let r = c.args.m.now in let t = c.args.tex in
    let offs : length t.off ≡ 2 = search rules in
    let scales : length t.scale ≡ 2 = search rules in
    let u = along r t 0 c.turned_axes-axis.result (matrix_of c.orient.result) c.shift-shift.result c.index-tex-0.result c.index-tex-0-2.result offs scales (lit< tt) c.index-tex-0.is c.index-tex-0-2.is
    c.turned_axes-axis.ensures c.orient.ensures c.shift-shift.ensures.shift in
    passed_on (λ fault. lost_offset r (Valve t) ≡ Some (fraction_of fault.offset)) c.from_residual.result c.in_err-u.field-0.0 c.from_residual.ensures.1
    (first_offset r t (fraction_of c.in_err-u.field-0.0.offset) (sym u.kept ∙ c.in_err-u.ensures.lost) (c.in_err-u.ensures.offset ∙ u.exact))

pub returns-in_err-v-clause-lost : goal.returns-in_err-v-clause-lost
returns-in_err-v-clause-lost c =
    let r = c.args.m.now in let t = c.args.tex in
    let offs : length t.off ≡ 2 = search rules in
    let scales : length t.scale ≡ 2 = search rules in
    let u = along r t 0 c.turned_axes-axis.result (matrix_of c.orient.result) c.shift-shift.result c.index-tex-0.result c.index-tex-0-2.result offs scales (lit< tt) c.index-tex-0.is c.index-tex-0-2.is
    c.turned_axes-axis.ensures c.orient.ensures c.shift-shift.ensures.shift in
    let v = along r t 1 c.turned_axes-axis.result (matrix_of c.orient.result) c.shift-shift.result c.index-tex-1.result c.index-tex-1-2.result offs scales (lit< tt) c.index-tex-1.is c.index-tex-1-2.is
    c.turned_axes-axis.ensures c.orient.ensures c.shift-shift.ensures.shift in
    passed_on (λ fault. carried_tex true r (Valve t) ≡ None) c.from_residual-in_err-v.result c.in_err-v.field-0.0 c.from_residual-in_err-v.ensures.1
    (second_lost r t c.in_ok-u.u (sym u.kept ∙ c.in_ok-u.ensures.ok) (sym v.kept ∙ c.in_err-v.ensures.lost))

pub returns-in_err-v-clause-offset : goal.returns-in_err-v-clause-offset
returns-in_err-v-clause-offset c =
    let r = c.args.m.now in let t = c.args.tex in
    let offs : length t.off ≡ 2 = search rules in
    let scales : length t.scale ≡ 2 = search rules in
    let u = along r t 0 c.turned_axes-axis.result (matrix_of c.orient.result) c.shift-shift.result c.index-tex-0.result c.index-tex-0-2.result offs scales (lit< tt) c.index-tex-0.is c.index-tex-0-2.is
    c.turned_axes-axis.ensures c.orient.ensures c.shift-shift.ensures.shift in
    let v = along r t 1 c.turned_axes-axis.result (matrix_of c.orient.result) c.shift-shift.result c.index-tex-1.result c.index-tex-1-2.result offs scales (lit< tt) c.index-tex-1.is c.index-tex-1-2.is
    c.turned_axes-axis.ensures c.orient.ensures c.shift-shift.ensures.shift in
    passed_on (λ fault. lost_offset r (Valve t) ≡ Some (fraction_of fault.offset)) c.from_residual-in_err-v.result c.in_err-v.field-0.0 c.from_residual-in_err-v.ensures.1
    (second_offset r t c.in_ok-u.u (fraction_of c.in_err-v.field-0.0.offset) (sym u.kept ∙ c.in_ok-u.ensures.ok) (sym v.kept ∙ c.in_err-v.ensures.lost) (c.in_err-v.ensures.offset ∙ v.exact))

pub returns-clause-ok : goal.returns-clause-ok
returns-clause-ok c =
    let r = c.args.m.now in let t = c.args.tex in
    let offs : length t.off ≡ 2 = search rules in
    let scales : length t.scale ≡ 2 = search rules in
    let u = along r t 0 c.turned_axes-axis.result (matrix_of c.orient.result) c.shift-shift.result c.index-tex-0.result c.index-tex-0-2.result offs scales (lit< tt) c.index-tex-0.is c.index-tex-0-2.is
    c.turned_axes-axis.ensures c.orient.ensures c.shift-shift.ensures.shift in
    let v = along r t 1 c.turned_axes-axis.result (matrix_of c.orient.result) c.shift-shift.result c.index-tex-1.result c.index-tex-1-2.result offs scales (lit< tt) c.index-tex-1.is c.index-tex-1-2.is
    c.turned_axes-axis.ensures c.orient.ensures c.shift-shift.ensures.shift in
    let axes = c.turned_axes-axis.ensures ∙ ap (λ m. turned_by m t.axis) c.orient.ensures in
    both_kept r t c.in_ok-u.u c.in_ok-v.v (sym u.kept ∙ c.in_ok-u.ensures.ok) (sym v.kept ∙ c.in_ok-v.ensures.ok)
    ∙ (λ i. Some (Valve (record t { axis = sym axes i; off = c.in_ok-u.u ∷ c.in_ok-v.v ∷ [] })))
