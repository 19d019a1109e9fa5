-- What the steps of a history keep, by the laws of histories.
use Rattle.std.proofs.Common.{◌≡◌, ℕ, zero, suc, ◌+◌, ◌-◌, ◌<◌, ◌≤◌, List, [], ◌∷◌, ◌++◌, length, take, drop, get_or, set, refl, ap, sym, subst, ◌∙◌, arith, add-one}
use Rattle.algebra.specs.Members.{◌∈◌, here, there, Every}
use Rattle.map_nodes.specs.declared.entry.Entry.{Entry}
use Rattle.map_model.specs.Tree.{Whole, Held, whole}
use Rattle.map_model.specs.Edits.{Changes, swap}
use Rattle.map_model.specs.History.{Records, Stands, Tight, added, maps_before, maps_after}
use Rattle.map_model.proofs.Histories.{add, undo, redo}
use Rattle.tree_node.specs.Held.{IsMap, AllBelow, numbers_of}
use Rattle.undo_log.specs.Log.{Keeps, GoesBack, GoesOn, HasOneMore, LeadsBack, HasSlots, maps_of, place_of, last_first, records_at}
use Rattle.undo_log.proofs.Lists.{before_it, behind_it, behind_new, before_new}
use Rattle.undo_log.proofs.Tights.{tight_back, same_number, same_count}

-- Members. -----------------------------------------------------------------------------------------------------------------

in_right : {A : Type 0} (x : A) (xs ys : List A) → x ∈ ys → x ∈ (xs ++ ys)
in_right x [] ys i = i
in_right x (y ∷ xs) ys i = there (in_right x xs ys i)

in_left : {A : Type 0} (x : A) (xs ys : List A) → x ∈ xs → x ∈ (xs ++ ys)
in_left x [] ys i = elim i [ ]
in_left x (y ∷ xs) ys here = here
in_left x (y ∷ xs) ys (there i) = there (in_left x xs ys i)

every_more : {A : Type 0} (P : A → Type 0) (y : A) (ys : List A) → P y → Every P ys → Every P (y ∷ ys)
every_more P y ys p ps x here = p
every_more P y ys p ps x (there i) = ps x i

every_rest : {A : Type 0} (P : A → Type 0) (y : A) (ys : List A) → Every P (y ∷ ys) → Every P ys
every_rest P y ys ps x i = ps x (there i)

-- Slots. --------------------------------------------------------------------------------------------------------------------

slots_of_same : (n : ℕ) (c d : Changes) → numbers_of d.entries ≡ numbers_of c.entries → AllBelow n c.entries → AllBelow n d.entries
slots_of_same n c d same below k e lt =
    let count : length d.entries ≡ length c.entries = same_count d.entries c.entries same in
    subst (λ i. i < n) (sym (same_number d.entries c.entries same k e)) (below k e (omega arith))

more_slots : (n m : ℕ) (c : Changes) → n ≤ m → AllBelow n c.entries → AllBelow m c.entries
more_slots n m c le below k e lt = let b = below k e lt in omega arith

every_slot : (before after : Held) (cs : List Changes) → length before.slots ≤ length after.slots → Every (HasSlots before) cs → Every (HasSlots after) cs
every_slot before after cs le each c i = more_slots (length before.slots) (length after.slots) c le (each c i)

no_fewer : (m n : ℕ) → n ≡ m → m ≤ n
no_fewer m n e = omega arith

-- The change that is swapped in leads to a map of the list. --------------------------------------------------------------------

pub map_before : (map : Held) (c : Changes) (behind ahead : List Changes) → Keeps (record { behind = c ∷ behind; ahead = ahead }) map → IsMap (swap (whole map) c)
map_before map c behind ahead keeps =
    keeps.are_maps (swap (whole map) c)
    (in_left _ (maps_before (swap (whole map) c) behind ++ swap (whole map) c ∷ []) (whole map ∷ maps_after (whole map) ahead)
    (in_right _ (maps_before (swap (whole map) c) behind) (swap (whole map) c ∷ []) here))

pub map_after : (map : Held) (c : Changes) (behind ahead : List Changes) → Keeps (record { behind = behind; ahead = c ∷ ahead }) map → IsMap (swap (whole map) c)
map_after map c behind ahead keeps =
    keeps.are_maps (swap (whole map) c)
    (in_right _ (maps_before (whole map) behind) (whole map ∷ swap (whole map) c ∷ maps_after (swap (whole map) c) ahead) (there here))

-- What a swap of a map and a change leaves, as the map's call says it.
pub record Swapped (before after : Held) (c d : Changes) : Type 0 where
  pub now : whole after ≡ swap (whole before) c
  pub back : swap (whole after) d ≡ whole before
  pub slots : length after.slots ≡ length before.slots
  pub numbers : numbers_of d.entries ≡ numbers_of c.entries

module _ (before after : Held) (c d : Changes) (swapped : Swapped before after c d) where
  back_again : swap (swap (whole before) c) d ≡ whole before
  back_again = ap (λ m. swap m d) (sym swapped.now) ∙ swapped.back

  d_tight : Tight (whole before) c → Tight (swap (whole before) c) d
  d_tight tight = tight_back (whole before) c d tight swapped.numbers back_again

  d_slots : HasSlots before c → HasSlots after d
  d_slots below = slots_of_same (length after.slots) c d swapped.numbers (more_slots (length before.slots) (length after.slots) c (no_fewer _ _ swapped.slots) below)

  rest_slots : (cs : List Changes) → Every (HasSlots before) cs → Every (HasSlots after) cs
  rest_slots cs each = every_slot before after cs (no_fewer _ _ swapped.slots) each

  pub undone : (behind ahead : List Changes) → Keeps (record { behind = c ∷ behind; ahead = ahead }) before →
      GoesBack (record { behind = c ∷ behind; ahead = ahead }) before (record { behind = behind; ahead = d ∷ ahead }) after
  undone behind ahead keeps =
      let old : Records = record { behind = c ∷ behind; ahead = ahead } in
      let new : Records = record { behind = behind; ahead = d ∷ ahead } in
      let stands : Stands new (whole after) (maps_of old (whole before)) (length behind) =
      subst (λ m. Stands new m (maps_of old (whole before)) (length behind)) (sym swapped.now)
      (undo (whole before) c d behind ahead (maps_of old (whole before)) (length behind)
      (subst (λ p. Stands old (whole before) (maps_of old (whole before)) p) (sym (add-one (length behind))) keeps.stands)
      (d_tight keeps.stands.tight_behind.0) back_again) in
      record {
        maps = sym stands.maps_are;
        place = add-one (length behind);
        keeps = record {
          stands = subst (λ ms. Stands new (whole after) ms (length behind)) stands.maps_are stands;
          are_maps = subst (Every IsMap) stands.maps_are keeps.are_maps;
          slots_behind = rest_slots behind (every_rest _ c behind keeps.slots_behind);
          slots_ahead = every_more _ d ahead (d_slots (keeps.slots_behind c here)) (rest_slots ahead keeps.slots_ahead);
        };
      }

  pub redone : (behind ahead : List Changes) → Keeps (record { behind = behind; ahead = c ∷ ahead }) before →
      GoesOn (record { behind = behind; ahead = c ∷ ahead }) before (record { behind = d ∷ behind; ahead = ahead }) after
  redone behind ahead keeps =
      let old : Records = record { behind = behind; ahead = c ∷ ahead } in
      let new : Records = record { behind = d ∷ behind; ahead = ahead } in
      let stands : Stands new (whole after) (maps_of old (whole before)) (length (d ∷ behind)) =
      subst (λ m. Stands new m (maps_of old (whole before)) (length (d ∷ behind))) (sym swapped.now)
      (subst (λ p. Stands new (swap (whole before) c) (maps_of old (whole before)) p) (add-one (length behind))
      (redo (whole before) c d behind ahead (maps_of old (whole before)) (length behind) keeps.stands
      (d_tight keeps.stands.tight_ahead.0) back_again)) in
      record {
        maps = sym stands.maps_are;
        place = sym (add-one (length behind));
        keeps = record {
          stands = subst (λ ms. Stands new (whole after) ms (length (d ∷ behind))) stands.maps_are stands;
          are_maps = subst (Every IsMap) stands.maps_are keeps.are_maps;
          slots_behind = every_more _ d behind (d_slots (keeps.slots_ahead c here)) (rest_slots behind keeps.slots_behind);
          slots_ahead = rest_slots ahead (every_rest _ c ahead keeps.slots_ahead);
        };
      }

-- A change is added. ---------------------------------------------------------------------------------------------------------------

in_take : {A : Type 0} (n : ℕ) (x : A) (xs : List A) → x ∈ take n xs → x ∈ xs
in_take zero x [] i = elim i [ ]
in_take zero x (y ∷ xs) i = elim i [ ]
in_take (suc n) x [] i = elim i [ ]
in_take (suc n) x (y ∷ xs) here = here
in_take (suc n) x (y ∷ xs) (there i) = there (in_take n x xs i)

every_and_one : {A : Type 0} (P : A → Type 0) (xs : List A) (y : A) → Every P xs → P y → Every P (xs ++ y ∷ [])
every_and_one P [] y each p = every_more P y [] p (λ x i. elim i [ ])
every_and_one P (x ∷ xs) y each p = every_more P x (xs ++ y ∷ []) (each x here) (every_and_one P xs y (every_rest P x xs each) p)

pub one_more : (old : Records) (c : Changes) (before after : Held) → Keeps old before → LeadsBack after c before → HasOneMore old before (added c old) after
one_more old c before after keeps leads =
    let maps : List Whole = take (place_of old + 1) (maps_of old (whole before)) ++ whole after ∷ [] in
    let stands : Stands (added c old) (whole after) maps (place_of old + 1) =
    add old (whole before) (whole after) (maps_of old (whole before)) (place_of old) c keeps.stands leads.tight leads.back in
    record {
      maps = sym stands.maps_are;
      place = sym stands.place_is;
      keeps = record {
        stands = subst (λ ms. Stands (added c old) (whole after) ms (place_of (added c old))) stands.maps_are
            (subst (λ p. Stands (added c old) (whole after) maps p) stands.place_is stands);
        are_maps = subst (Every IsMap) stands.maps_are
            (every_and_one IsMap (take (place_of old + 1) (maps_of old (whole before))) (whole after)
            (λ m i. keeps.are_maps m (in_take (place_of old + 1) m (maps_of old (whole before)) i)) leads.is_map);
        slots_behind = every_more _ c old.behind leads.has_slots (every_slot before after old.behind leads.no_fewer keeps.slots_behind);
        slots_ahead = λ d i. elim i [ ];
      };
    }

-- More slots change nothing. ----------------------------------------------------------------------------------------------------------

pub keeps_more : (h : Records) (before after : Held) → whole after ≡ whole before → length before.slots ≤ length after.slots → Keeps h before → Keeps h after
keeps_more h before after same le keeps = record {
  stands = subst (λ m. Stands h m (maps_of h m) (place_of h)) (sym same) keeps.stands;
  are_maps = subst (λ m. Every IsMap (maps_of h m)) (sym same) keeps.are_maps;
  slots_behind = every_slot before after h.behind le keeps.slots_behind;
  slots_ahead = every_slot before after h.ahead le keeps.slots_ahead;
}

-- The steps in a list of changes. --------------------------------------------------------------------------------------------------------

module _ (cs : List Changes) (p : ℕ) (r : Records) (map : Held) (c : Changes) (within : p < length cs) (is : c ≡ get_or cs p c) where
  abbrev earlier : List Changes
  earlier = last_first (take p cs)

  abbrev later : List Changes
  later = drop (p + 1) cs

  -- The change stands right behind the place, or right ahead of it.
  module _ (at : records_at (p + 1) cs ≡ r) (keeps : Keeps r map) where
    behind_is : r ≡ record { behind = c ∷ earlier; ahead = later }
    behind_is = sym at ∙ before_it cs p c within ∙ ap (λ x. record { behind = x ∷ earlier; ahead = later }) (sym is)

    kept_behind : Keeps (record { behind = c ∷ earlier; ahead = later }) map
    kept_behind = subst (λ h. Keeps h map) behind_is keeps

    pub slots_for_undo : HasSlots map c
    slots_for_undo = kept_behind.slots_behind c here

    pub map_for_undo : IsMap (swap (whole map) c)
    map_for_undo = map_before map c earlier later kept_behind

    pub goes_back : (after : Held) (d : Changes) → Swapped map after c d → GoesBack r map (records_at p (set cs p d)) after
    goes_back after d swapped =
        subst (λ h. GoesBack h map (records_at p (set cs p d)) after) (sym behind_is)
        (subst (λ h. GoesBack (record { behind = c ∷ earlier; ahead = later }) map h after) (sym (behind_new cs p d within))
        (undone map after c d swapped earlier later kept_behind))

  module _ (at : records_at p cs ≡ r) (keeps : Keeps r map) where
    ahead_is : r ≡ record { behind = earlier; ahead = c ∷ later }
    ahead_is = sym at ∙ behind_it cs p c within ∙ ap (λ x. record { behind = earlier; ahead = x ∷ later }) (sym is)

    kept_ahead : Keeps (record { behind = earlier; ahead = c ∷ later }) map
    kept_ahead = subst (λ h. Keeps h map) ahead_is keeps

    pub slots_for_redo : HasSlots map c
    slots_for_redo = kept_ahead.slots_ahead c here

    pub map_for_redo : IsMap (swap (whole map) c)
    map_for_redo = map_after map c earlier later kept_ahead

    pub goes_on : (after : Held) (d : Changes) → Swapped map after c d → GoesOn r map (records_at (p + 1) (set cs p d)) after
    goes_on after d swapped =
        subst (λ h. GoesOn h map (records_at (p + 1) (set cs p d)) after) (sym ahead_is)
        (subst (λ h. GoesOn (record { behind = earlier; ahead = c ∷ later }) map h after) (sym (before_new cs p d within))
        (redone map after c d swapped earlier later kept_ahead))

-- A map that hasn't changed. --------------------------------------------------------------------------------------------------------------

pub keeps_new : (map : Held) → IsMap (whole map) → Keeps (record { behind = []; ahead = [] }) map
keeps_new map is_map = record {
  stands = record { maps_are = refl; place_is = refl; tight_behind = tt; tight_ahead = tt };
  are_maps = every_more IsMap (whole map) [] is_map (λ m i. elim i [ ]);
  slots_behind = λ c i. elim i [ ];
  slots_ahead = λ c i. elim i [ ];
}

-- A change that was swapped in leads back. ------------------------------------------------------------------------------------------------

pub leads_back : (before after : Held) (c d : Changes) → Swapped before after c d → Tight (whole before) c → IsMap (swap (whole before) c) → HasSlots before c → LeadsBack after d before
leads_back before after c d swapped tight is_map slots = record {
  back = swapped.back;
  tight = subst (λ m. Tight m d) (sym swapped.now) (d_tight before after c d swapped tight);
  is_map = subst IsMap (sym swapped.now) is_map;
  has_slots = d_slots before after c d swapped slots;
  no_fewer = no_fewer _ _ swapped.slots;
}
