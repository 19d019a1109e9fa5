-- A command of the tree changes no content of a linked group but of those that it edits.
use Rattle.std.proofs.Common.{◌≡◌, ℕ, List, [], ◌∷◌, ◌++◌, length, flat_map, Bool, true, false, cond, not, ◌==◌, ◌&&◌, refl, ap, sym, ◌∙◌, subst, arith, Option, Some, None, option_map, filter}
use Rattle.std.specs.Prelude.{unwrap_or, is_some, option_to_list, nat_lt}
use Rattle.std.proofs.lemmas.Bool.{eq-eqb, and_parts}
use Rattle.uv_lock.specs.declared.texture.Format.{Format}
use Rattle.algebra.specs.Members.{◌∈◌, here, there}
use Rattle.map_model.specs.Tree.{brushes_at, is_kind, Whole, Node, World, Layer, Group, Entity, Brush, Kind, group, entity, at, up, over, is_linked, kind_of, link_of, format_of}
use Rattle.map_model.specs.Edits.{renew, each_in_turn, delete, move_all, forget, take_out}
use Rattle.map_model.specs.Shape.{Standing, Marks}
use Rattle.map_model.specs.Own.{ungroup, untie}
use Rattle.map_model.specs.Apply.{prune, drop_emptied, is_emptied}
use Rattle.map_model.specs.Commands.{Command, Delete, Into, Ungroup, Untie}
use Rattle.map_model.specs.Rows.{named, edits}
use Rattle.map_laws.specs.Placed.{Placed, Bounded}
use Rattle.map_laws.proofs.Lists.{tally-no_member, by_eq, member-left, member-right}
use Rattle.map_laws.proofs.Beneath.{Beneath, itself, under, some_one}
use Rattle.map_laws.proofs.Forest.{not_none}
use Rattle.map_laws.proofs.Skeleton.{kind_at, planted, placed_of, kind_is}
use Rattle.map_laws.proofs.Pruning.{prune-walk, dropped, drop_emptied_placed}
use Rattle.map_laws.proofs.Kept.{bounded_by, delete_comes}
use Rattle.map_laws.proofs.InTurn.{by_member, AreNodes, Apart, delete_all, by_gone, kind-gone, kind-deleted, up-deleted, up_before, apart_sub}
use Rattle.map_laws.proofs.Placing.{delete_placed}
use Rattle.map_laws.proofs.Refused.{NodesFit}
use Rattle.link_laws.proofs.Freed.{ungroup_all, untied}
use Rattle.map_laws.proofs.Pruned.{rooted_at, chain_list}
use Rattle.map_laws.proofs.Deleting.{delete_nodes, delete_rooted, deleted}
use Rattle.link_laws.proofs.Moves.{delete_apart}
use Rattle.map_laws.proofs.GoingInto.{into_gone, into_rooted}
use Rattle.link_laws.proofs.Contents.{SameContent, renew_same, moved_same}
use Rattle.link_laws.proofs.Untouched.{Unedited, not_beneath, pruned_same, delete_all_same}

pub in_option : (o : Option ℕ) (h : ℕ) → o ≡ Some h → h ∈ option_to_list o
in_option None h e = absurd (cc)
in_option (Some a) h e = first_is (some_is e)
  where
    some_is : Some a ≡ Some h → h ≡ a
    some_is e = cc

    first_is : h ≡ a → h ∈ (a ∷ [])
    first_is e = rw e here

-- A list of the edited groups of each named node.
pub not_over_by : (m : Whole) (h : ℕ) (f : ℕ → List ℕ) (ns : List ℕ) → ((n : ℕ) → over m n ≡ Some h → h ∈ f n) → (h ∈ flat_map f ns → ⊥) → (n : ℕ) → n ∈ ns → over m n ≡ Some h → ⊥
not_over_by m h f [] sub none n i e = elim i [ ]
not_over_by m h f (x ∷ xs) sub none n here e = none (member-left h (f x) (flat_map f xs) (sub x e))
not_over_by m h f (x ∷ xs) sub none n (there i) e = not_over_by m h f xs sub (λ j. none (member-right h (f x) (flat_map f xs) j)) n i e

linked_kind : (o : Option Node) → unwrap_or (option_map (λ x. is_some (link_of x)) o) false ≡ true → option_map kind_of o ≡ Some group
linked_kind None e = absurd (cc)
linked_kind (Some (World a b c d)) e = absurd (cc)
linked_kind (Some (Layer a b c d g)) e = absurd (cc)
linked_kind (Some (Group a b c d g h i)) e = refl
linked_kind (Some (Entity a b c d g)) e = absurd (cc)
linked_kind (Some (Brush a b c)) e = absurd (cc)

pub group_linked : (m : Whole) (h : ℕ) → is_linked m h ≡ true → kind_at m h ≡ Some group
group_linked m h e = linked_kind (at m h) e

-- What is there after pruning was there before.
drops_kinds : (before : Whole) (ns : List ℕ) (m : Whole) → Placed m → (h : ℕ) (j : Kind) → kind_at (each_in_turn (drop_emptied before) ns m) h ≡ Some j → kind_at m h ≡ Some j
drops_kinds before [] m placed h j e = e
drops_kinds before (n ∷ ns) m placed h j e =
    one (is_emptied before m n && not (is_linked m n)) (drops_kinds before ns (drop_emptied before n m) (drop_emptied_placed before n m placed) h j e)
  where
    one : (b : Bool) → kind_at (cond b (forget (n ∷ []) (take_out n m)) m) h ≡ Some j → kind_at m h ≡ Some j
    one true e =
        let d = dropped m n (planted placed) in
        by_eq h n (λ s. absurd (not_none e (ap (kind_at (forget (n ∷ []) (take_out n m))) s ∙ ap (option_map kind_of) d.gone))) (λ ne. sym (d.kinds h ne) ∙ e)
    one false e = e

pub unpruned : (before k : Whole) (c : Command) (h : ℕ) (j : Kind) → Placed k → kind_at (prune before c k) h ≡ Some j → kind_at k h ≡ Some j
unpruned before k c h j placed e = drops_kinds before (chain_list before c) k placed h j (ap (λ l. kind_at l h) (sym (prune-walk before c k)) ∙ e)

-- A node beneath a deleted one is gone.
deleted_gone : (f : Format) (ns : List ℕ) (m : Whole) (h : ℕ) → Placed m → Bounded m → AreNodes m ns → Apart m ns → (n : ℕ) → n ∈ ns → Beneath (up m) n h → kind_at (each_in_turn delete ns m) h ≡ None
deleted_gone f [] m h placed bound nodes apart n i b = elim i [ ]
deleted_gone f (x ∷ xs) m h placed bound nodes apart n i b =
    let w = nodes x here in
    let placed1 = delete_placed m x w.0 placed bound w.2 w.1 in
    let bound1 = bounded_by (delete_comes f m x bound) in
    let nodes1 : AreNodes (delete x m) xs = λ q i. let y = nodes q (there i) in (y.0, kind-deleted m x w.0 placed bound w.1 q (apart.0 q i) ∙ y.1, y.2) in
    let apart1 : Apart (delete x m) xs = apart_sub m (delete x m) (up_before m x w.0 placed bound w.1) xs apart.1 in
    by_gone m x w.0 placed bound w.1 h
    (λ c. stays (kind_at (each_in_turn delete xs (delete x m)) h) (kind_at (delete x m) h) ((delete_all f xs (delete x m) placed1 bound1 nodes1 apart1).without.kinds h) (kind-gone m x w.0 placed bound w.1 h c))
    (λ out. deleted_gone f xs (delete x m) h placed1 bound1 nodes1 apart1 n (later n i b out) (kept w.0 w.1 out b))
  where
    stays : (o p : Option Kind) → ((j : Kind) → o ≡ Some j → p ≡ Some j) → p ≡ None → o ≡ None
    stays None p h e = refl
    stays (Some j) p h e = absurd (not_none (h j refl) e)

    later : (a : ℕ) → a ∈ (x ∷ xs) → Beneath (up m) a h → (Beneath (up m) x h → ⊥) → a ∈ xs
    later a here b out = absurd (out b)
    later a (there i) b out = i

    kept : (k : Kind) → kind_at m x ≡ Some k → {q : ℕ} → (Beneath (up m) x q → ⊥) → Beneath (up m) n q → Beneath (up (delete x m)) n q
    kept k is out itself = itself
    kept k is out (under q p e b) = under q p (up-deleted m x k placed bound is q out ∙ e) (kept k is (λ c. out (under q p e c)) b)

module _ (m : Whole) (standing : Standing m) (bound : Bounded m) (marks : Marks m) (h : ℕ) (linked : is_linked m h ≡ true) where
  placed : Placed m
  placed = placed_of standing

  unedited : (f : ℕ → List ℕ) (ns : List ℕ) → ((n : ℕ) → over m n ≡ Some h → h ∈ f n) → (h ∈ flat_map f ns → ⊥) → Unedited m h ns
  unedited f ns sub none = record { linked = linked; not_over = not_over_by m h f ns sub none }

  -- a command that changes one node
  renewed : (c : Command) (n : ℕ) (g : Node → Node) → named c ≡ n ∷ [] → Placed (renew n g m) → (k : Kind) → kind_at m n ≡ Some k → (k ≡ group → ⊥) → ((a : ℕ) → over m a ≡ Some h → h ∈ edits m c a) → (h ∈ flat_map (edits m c) (n ∷ []) → ⊥) →
      SameContent h m (prune m c (renew n g m))
  renewed c n g name after k is no_group sub none =
      let u = unedited (edits m c) (n ∷ []) sub none in
      let rooted : (a : ℕ) → a ∈ (n ∷ []) → Beneath (up m) 0 a = λ a i. subst (λ x. Beneath (up m) 0 x) (sym (only a i)) (rooted_at m placed bound n k is) in
      pruned_same m placed bound marks h (n ∷ []) u rooted (renew n g m) c name after (renew_same m n h g (λ w. not_beneath m placed bound marks h (n ∷ []) u rooted n here w
      (λ t. no_group (some_one is (ap (kind_at m) t ∙ group_linked m h linked)))))
    where
      only : (a : ℕ) → a ∈ (n ∷ []) → a ≡ n
      only a here = refl
      only a (there i) = elim i [ ]

  pub delete_content : (ns : List ℕ) → NodesFit m (Delete ns) → (h ∈ flat_map (edits m (Delete ns)) ns → ⊥) → (j : Kind) → kind_at (prune m (Delete ns) (each_in_turn delete ns m)) h ≡ Some j →
      SameContent h m (prune m (Delete ns) (each_in_turn delete ns m))
  delete_content ns fit none j live =
      let f = format_of m in
      let nodes = delete_nodes f m ns standing bound fit in
      let apart = delete_apart m ns standing bound fit in
      let rooted = delete_rooted f m ns standing bound fit in
      let d = deleted f m ns standing bound fit in
      let u = unedited (edits m (Delete ns)) ns (λ n e. in_option (over m n) h e) none in
      let stays : (n : ℕ) → n ∈ ns → Beneath (up m) n h → ⊥ = λ n i w. not_none (unpruned m (each_in_turn delete ns m) (Delete ns) h j d.placed live) (deleted_gone f ns m h placed bound nodes apart n i w) in
      pruned_same m placed bound marks h ns u rooted (each_in_turn delete ns m) (Delete ns) refl d.placed
      (delete_all_same ns m h placed bound nodes apart stays (λ n i w. not_beneath m placed bound marks h ns u rooted n i w (λ t. stays n i (subst (λ x. Beneath (up m) n x) t itself))))

  pub into_content : (place : ℕ) (ns : List ℕ) → NodesFit m (Into place ns) → (h ∈ flat_map (edits m (Into place ns)) (place ∷ ns) → ⊥) → SameContent h m (prune m (Into place ns) (move_all place ns m))
  into_content place ns fit none =
      let f = format_of m in
      let g = into_gone f m place ns standing bound fit in
      let rooted = into_rooted f m place ns standing bound fit in
      let u = unedited (edits m (Into place ns)) (place ∷ ns) (λ n e. member-right h (filter (is_linked m) (cond (n == place) (n ∷ []) [])) (option_to_list (over m n)) (in_option (over m n) h e)) none in
      pruned_same m placed bound marks h (place ∷ ns) u rooted (move_all place ns m) (Into place ns) refl g.placed
      (moved_same m place ns h placed
      (λ n i w ne. not_beneath m placed bound marks h (place ∷ ns) u rooted n (there i) w ne)
      (λ w. not_beneath m placed bound marks h (place ∷ ns) u rooted place here w (λ t. none (member-left h (edits m (Into place ns) place) (flat_map (edits m (Into place ns)) ns) (target t)))))
    where
      target : place ≡ h → h ∈ (filter (is_linked m) (cond (place == place) (place ∷ []) []) ++ option_to_list (over m place))
      target t = member-left h (filter (is_linked m) (cond (place == place) (place ∷ []) [])) (option_to_list (over m place))
          (subst (λ l. h ∈ l) (sym (ap (λ b. filter (is_linked m) (cond b (place ∷ []) [])) (eq-eqb place place refl) ∙ ap (λ b. cond b (place ∷ []) []) (ap (is_linked m) t ∙ linked))) (first_is (sym t)))
        where
          first_is : h ≡ place → h ∈ (place ∷ [])
          first_is e = rw e here

  pub ungroup_content : (ns : List ℕ) → NodesFit m (Ungroup ns) → (h ∈ flat_map (edits m (Ungroup ns)) ns → ⊥) → (h ∈ ns → ⊥) → SameContent h m (prune m (Ungroup ns) (each_in_turn ungroup ns m))
  ungroup_content ns fit none out =
      let rooted : (n : ℕ) → n ∈ ns → Beneath (up m) 0 n = λ n i. rooted_at m placed bound n group (kind_is m group n (fit.fit n i)) in
      let u = unedited (edits m (Ungroup ns)) ns (λ n e. in_option (over m n) h e) none in
      let d = ungroup_all (format_of m) ns m placed bound standing.no_empty_group (λ n i. kind_is m group n (fit.fit n i)) (λ x. by_member x ns (λ i. fit.once x i) (λ none. omega (arith, tally-no_member x ns none))) in
      pruned_same m placed bound marks h ns u rooted (each_in_turn ungroup ns m) (Ungroup ns) refl d.base.placed
      (d.same h (λ n i w. not_beneath m placed bound marks h ns u rooted n i w (λ t. out (subst (λ x. x ∈ ns) t i))))

  pub untie_content : (ns : List ℕ) → NodesFit m (Untie ns) → (h ∈ flat_map (edits m (Untie ns)) ns → ⊥) → SameContent h m (prune m (Untie ns) (each_in_turn untie ns m))
  untie_content ns fit none =
      let is_entity : (n : ℕ) → n ∈ ns → kind_at m n ≡ Some entity = λ n i. kind_is m entity n (and_parts (is_kind m entity n) (nat_lt 0 (length (brushes_at m n))) (fit.fit n i)).0 in
      let rooted : (n : ℕ) → n ∈ ns → Beneath (up m) 0 n = λ n i. rooted_at m placed bound n entity (is_entity n i) in
      let u = unedited (edits m (Untie ns)) ns (λ n e. in_option (over m n) h e) none in
      let d = untied (format_of m) m ns standing bound fit in
      pruned_same m placed bound marks h ns u rooted (each_in_turn untie ns m) (Untie ns) refl d.base.placed
      (d.same h (λ n i w. not_beneath m placed bound marks h ns u rooted n i w (λ t. differ (some_one (is_entity n i) (ap (kind_at m) t ∙ group_linked m h linked)))))
    where
      differ : entity ≡ group → ⊥
      differ e = cc

  -- set, unset, freeze and thaw
  pub renew_content : (c : Command) (n : ℕ) (g : Node → Node) → named c ≡ n ∷ [] → Placed (renew n g m) → (k : Kind) → kind_at m n ≡ Some k → (k ≡ group → ⊥) → ((a : ℕ) → edits m c a ≡ option_to_list (over m a)) →
      (h ∈ flat_map (edits m c) (named c) → ⊥) → SameContent h m (prune m c (renew n g m))
  renew_content c n g name after k is no_group same none =
      renewed c n g name after k is no_group (λ a e. subst (λ l. h ∈ l) (sym (same a)) (in_option (over m a) h e)) (subst (λ l. h ∈ flat_map (edits m c) l → ⊥) name none)
