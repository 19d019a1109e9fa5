use Rattle.std.proofs.Common.{ap, ap₂, sym, subst, ◌∙◌}
use Rattle.map_model.specs.Tree.{whole}
use Rattle.map_model.specs.Edits.{swap}
use Rattle.tree_node.proofs.Exchanges.{now_swapped, swapped_back, refilled, rising_taken, numbers_taken}
use Rattle.tree_node.specs.Held.{IsMap, Rising, numbers_of, taken_from}
use Rattle.tree_node.proofs.map.Map.swap.Goals as goal

pub returns-clause-now : goal.returns-clause-now
returns-clause-now c =
    let slots = refilled c.self.inside.slots.len c.exchange.new.slots c.self.inside.slots.items (c.exchange.auto.slots ∙ c.deref_mut.ensures.len) in
    ap₂ (λ s n. whole (record { slots = s; next = n })) slots c.swap.ensures.x_after
    ∙ now_swapped c.deref_mut.result.now c.exchange.new.slots c.deref_mut-2.result.now c.self.inside.next c.c.inside.next c.exchange.ensures.there
    ∙ ap₂ (λ s e. swap (whole (record { slots = s; next = c.self.inside.next })) (record { entries = e; next = c.c.inside.next })) c.deref_mut.ensures.value c.deref_mut-2.ensures.value
    ∙ ap₂ (λ m ch. swap (whole m) ch) c.self.view_is c.c.view_is

pub returns-clause-back : goal.returns-clause-back
returns-clause-back c =
    let slots = refilled c.self.inside.slots.len c.exchange.new.slots c.self.inside.slots.items (c.exchange.auto.slots ∙ c.deref_mut.ensures.len) in
    let entries = refilled c.c.inside.entries.len c.exchange.new.entries c.c.inside.entries.items (c.exchange.auto.entries ∙ c.deref_mut-2.ensures.len) in
    ap₂ (λ s n. swap (whole (record { slots = s; next = c.swap.new.x })) (record { entries = n; next = c.swap.new.y })) slots entries
    ∙ ap₂ (λ n k. swap (whole (record { slots = c.exchange.new.slots; next = n })) (record { entries = c.exchange.new.entries; next = k })) c.swap.ensures.x_after c.swap.ensures.y_after
    ∙ swapped_back c.deref_mut.result.now c.exchange.new.slots c.deref_mut-2.result.now c.exchange.new.entries c.self.inside.next c.c.inside.next c.exchange.ensures.there c.exchange.ensures.here
    ∙ ap (λ s. whole (record { slots = s; next = c.self.inside.next })) c.deref_mut.ensures.value ∙ ap whole c.self.view_is

pub returns-clause-numbers : goal.returns-clause-numbers
returns-clause-numbers c =
    let entries = refilled c.c.inside.entries.len c.exchange.new.entries c.c.inside.entries.items (c.exchange.auto.entries ∙ c.deref_mut-2.ensures.len) in
    ap numbers_of (entries ∙ c.exchange.ensures.here) ∙ numbers_taken c.deref_mut.result.now c.deref_mut-2.result.now
    ∙ ap numbers_of c.deref_mut-2.ensures.value ∙ ap (λ d. numbers_of d.entries) c.c.view_is

pub invariant_of-self : goal.invariant_of-self
invariant_of-self c =
    let slots = refilled c.self.inside.slots.len c.exchange.new.slots c.self.inside.slots.items (c.exchange.auto.slots ∙ c.deref_mut.ensures.len) in
    subst IsMap (sym (
    ap₂ (λ s n. whole (record { slots = s; next = n })) slots c.swap.ensures.x_after
    ∙ now_swapped c.deref_mut.result.now c.exchange.new.slots c.deref_mut-2.result.now c.self.inside.next c.c.inside.next c.exchange.ensures.there
    ∙ ap₂ (λ s e. swap (whole (record { slots = s; next = c.self.inside.next })) (record { entries = e; next = c.c.inside.next })) c.deref_mut.ensures.value c.deref_mut-2.ensures.value
    ∙ ap₂ (λ m ch. swap (whole m) ch) c.self.view_is c.c.view_is)) c.requires.sound

pub invariant_of-c : goal.invariant_of-c
invariant_of-c c =
    let entries = refilled c.c.inside.entries.len c.exchange.new.entries c.c.inside.entries.items (c.exchange.auto.entries ∙ c.deref_mut-2.ensures.len) in
    subst Rising (sym (entries ∙ c.exchange.ensures.here ∙ ap (taken_from c.deref_mut.result.now) c.deref_mut-2.ensures.value)) (rising_taken c.deref_mut.result.now c.c.inside.entries.items c.c.invariant)
