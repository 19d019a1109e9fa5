-- The commands that move nodes in the tree, or take them away, keep the sets of linked groups.
use Rattle.std.proofs.Common.{ℕ, List, [], ◌∷◌, refl, arith}
use Rattle.map_model.specs.Commands.{Delete, Into, Tie, Untie, Group, Ungroup}
use Rattle.map_model.specs.Own.{own}
use Rattle.map_laws.proofs.Refused.{nodes_fit}
use Rattle.link_laws.specs.Keeping.{KeepsAllOne}
use Rattle.link_laws.proofs.BeforeSpread.{named_rooted, to_spread}
use Rattle.link_laws.proofs.TreeResults.{delete_result, into_result, ungroup_result, untie_result, group_result, tie_result}
use Rattle.link_laws.proofs.TwoMembers.{one_edited}
use Rattle.link_laws.proofs.Finishing.{keeps}

pub delete_keeps : (ns : List ℕ) → KeepsAllOne (Delete ns)
delete_keeps ns b s m a right good shape all e =
    keeps b s m (Delete ns) a right refl
    (λ none empty most. to_spread m (Delete ns) (own b s m (Delete ns)) shape (named_rooted b s m (Delete ns) shape none)
    (delete_result b s m ns shape (nodes_fit b s m (Delete ns) none)) refl all (one_edited b s m (Delete ns) none) empty most)
    e

pub into_keeps : (place : ℕ) (ns : List ℕ) → KeepsAllOne (Into place ns)
into_keeps place ns b s m a right good shape all e =
    keeps b s m (Into place ns) a right refl
    (λ none empty most. to_spread m (Into place ns) (own b s m (Into place ns)) shape (named_rooted b s m (Into place ns) shape none)
    (into_result b s m place ns shape (nodes_fit b s m (Into place ns) none) none) refl all (one_edited b s m (Into place ns) none) empty most)
    e

pub ungroup_keeps : (ns : List ℕ) → KeepsAllOne (Ungroup ns)
ungroup_keeps ns b s m a right good shape all e =
    keeps b s m (Ungroup ns) a right refl
    (λ none empty most. to_spread m (Ungroup ns) (own b s m (Ungroup ns)) shape (named_rooted b s m (Ungroup ns) shape none)
    (ungroup_result m ns shape (nodes_fit b s m (Ungroup ns) none)) refl all (one_edited b s m (Ungroup ns) none) empty most)
    e

pub untie_keeps : (ns : List ℕ) → KeepsAllOne (Untie ns)
untie_keeps ns b s m a right good shape all e =
    keeps b s m (Untie ns) a right refl
    (λ none empty most. to_spread m (Untie ns) (own b s m (Untie ns)) shape (named_rooted b s m (Untie ns) shape none)
    (untie_result m ns shape (nodes_fit b s m (Untie ns) none)) refl all (one_edited b s m (Untie ns) none) empty most)
    e

pub group_keeps : (name : List ℕ) (ns : List ℕ) → KeepsAllOne (Group name ns)
group_keeps name [] b s m a right good shape all e = absurd (omega (arith, good.counts))
group_keeps name (n ∷ ns) b s m a right good shape all e =
    keeps b s m (Group name (n ∷ ns)) a right refl
    (λ none empty most. to_spread m (Group name (n ∷ ns)) (own b s m (Group name (n ∷ ns))) shape (named_rooted b s m (Group name (n ∷ ns)) shape none)
    (group_result b s m name n ns shape good none) refl all (one_edited b s m (Group name (n ∷ ns)) none) empty most)
    e

pub tie_keeps : (class : List ℕ) (ns : List ℕ) → KeepsAllOne (Tie class ns)
tie_keeps class [] b s m a right good shape all e = absurd (omega (arith, good.counts))
tie_keeps class (n ∷ ns) b s m a right good shape all e =
    keeps b s m (Tie class (n ∷ ns)) a right refl
    (λ none empty most. to_spread m (Tie class (n ∷ ns)) (own b s m (Tie class (n ∷ ns))) shape (named_rooted b s m (Tie class (n ∷ ns)) shape none)
    (tie_result b s m class n ns shape good none) refl all (one_edited b s m (Tie class (n ∷ ns)) none) empty most)
    e
