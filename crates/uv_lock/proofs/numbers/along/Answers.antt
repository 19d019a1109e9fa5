use Rattle.std.proofs.Common.{◌≡◌, ◌∙◌, ◌<◌, ◌^◌, ◌*ℤ◌, length, lit<, rules, subst, sym, w32}
use Rattle.algebra.specs.Space.{dot}
use Rattle.algebra.proofs.Wide.{sizes, exactly, no_overflow, at_most, called}
use Rattle.exact_geom.proofs.Exactly.{var}
use Rattle.orient48.specs.Kept.{vector_in}
use Rattle.orient48.proofs.Parts.{within_short}
use Rattle.uv_lock.proofs.Sums.{read_at}
use Rattle.uv_lock.proofs.numbers.along.Goals as goal

pub overflow_add-result-2 : goal.overflow_add-result-2
overflow_add-result-2 c =
    let p = called (10 ^ 21) c.product.ensures.value c.product.ensures.size in
    let q = called (10 ^ 21) c.product-2.ensures.value c.product-2.ensures.size in
    let r = called (10 ^ 21) c.product-3.ensures.value c.product-3.ensures.size in
    no_overflow (search sizes depth 20) tt

pub returns-clause-value : goal.returns-clause-value
unfolding dot
returns-clause-value c =
    let v = vector_in c.args.vector in
    let s = within_short v c.requires in
    let three : length c.args.axis ≡ 3 = search rules in
    let x = read_at c.args.axis 0 c.index-axis-0.result (subst (λ n. 0 < n) (sym three) (lit< tt)) c.index-axis-0.is in
    let y = read_at c.args.axis 1 c.index-axis-1.result (subst (λ n. 1 < n) (sym three) (lit< tt)) c.index-axis-1.is in
    let z = read_at c.args.axis 2 c.index-axis-2.result (subst (λ n. 2 < n) (sym three) (lit< tt)) c.index-axis-2.is in
    let p = called (10 ^ 21) (c.product.ensures.value ∙ (λ i. (var w32 v.x s.x tt).is i *ℤ x i)) c.product.ensures.size in
    let q = called (10 ^ 21) (c.product-2.ensures.value ∙ (λ i. (var w32 v.y s.y tt).is i *ℤ y i)) c.product-2.ensures.size in
    let r = called (10 ^ 21) (c.product-3.ensures.value ∙ (λ i. (var w32 v.z s.z tt).is i *ℤ z i)) c.product-3.ensures.size in
    exactly (search sizes depth 20) tt

pub returns-clause-size : goal.returns-clause-size
returns-clause-size c =
    let p = called (10 ^ 21) c.product.ensures.value c.product.ensures.size in
    let q = called (10 ^ 21) c.product-2.ensures.value c.product-2.ensures.size in
    let r = called (10 ^ 21) c.product-3.ensures.value c.product-3.ensures.size in
    at_most (returns-clause-value c) (search sizes depth 20) tt
