-- What a run says where it opened no map, or gave not all lines of the opening.
use Rattle.std.proofs.Common.{◌≡◌, ℕ, ◌≤◌, Bool, true, false, MatchBool, List, length, Option, Some, None, nat_lt, refl, ap, sym, subst, inl, inr}
use Rattle.std.proofs.lemmas.Bool.{lt-ltb, le-ltb}
use Rattle.outside_io.specs.Moved.{Grew}
use Rattle.outside_io.specs.Texts.{Texts}
use Rattle.map_report.specs.declared.fault.MapFault.{MapFault}
use Rattle.map_opening.specs.Opening.{Opened, Refused, Opens, opening_text}
use Rattle.map_opening.specs.Laws.{OpensOneWay, OpensForAll}
use Rattle.edit_session.specs.declared.status.TheConstants.{LIMIT}
use Rattle.edit_session.specs.declared.status.Which.TheVariants.{Map, Script}
use Rattle.edit_session.specs.declared.status.Status.{Status}
use Rattle.edit_session.specs.declared.status.Status.TheVariants.{Ended, Usage, ReadFault, WriteFault, MapRefused, Memory, TooLong}
use Rattle.edit_session.specs.Tests.{Tests}
use Rattle.edit_session.specs.Devices.{Told, told_of}
use Rattle.edit_session.specs.Opening.{NotOpened}
use Rattle.edit_session.specs.Found.{StoppedTelling, OpensOnce, LongSays, FoundSays}

-- Tests of which the answer is known, or isn't.
match_true : (b : Bool) (P Q : Type 0) → b ≡ true → P → MatchBool b P Q
match_true true P Q e p = p
match_true false P Q e p = absurd (cc)

match_false : (b : Bool) (P Q : Type 0) → b ≡ false → Q → MatchBool b P Q
match_false true P Q e q = absurd (cc)
match_false false P Q e q = q

match_both : (b : Bool) (P Q : Type 0) → P → Q → MatchBool b P Q
match_both true P Q p q = p
match_both false P Q p q = q

-- Bytes that open so open in one way.
pub once : OpensOneWay → (bytes : List ℕ) (said : Tests → Opened → Type 0) (opened : Opened) → Opens bytes opened → ((tests : Tests) → said tests opened) → OpensOnce bytes said
once one bytes said opened opens says = record {
  opened = opened;
  opens = opens;
  only = λ tests other h. one tests.below tests.right bytes other opened h (opens tests.below tests.right);
  says = says;
}

-- The bytes that were found are short enough.
pub found_read : (found : Option (List ℕ)) (bytes : List ℕ) (status : Status) (before now : Told) (unfetched : Type 0) (said : Tests → Opened → Type 0) →
    found ≡ Some bytes → length bytes ≤ 67108864 → OpensOnce bytes said → FoundSays found status before now unfetched said
found_read found bytes status before now unfetched said is fits says =
    subst (λ f. FoundSays f status before now unfetched said) (sym is)
    (match_false (nat_lt LIMIT (length bytes)) (LongSays status before now unfetched) (OpensOnce bytes said) (le-ltb LIMIT (length bytes) fits) says)

-- What is said of a run that stopped, and of one that refused the map.
module _ (one : OpensOneWay) (some : OpensForAll) (left given now : Option (List ℕ)) (kept : Option Texts) (unfetched ungiven : Type 0) (said : Tests → Opened → Type 0) where
  abbrev Stops : Status → Type 0
  Stops status = (tests : Tests) (opened : Opened) → StoppedTelling status (opening_text opened) (told_of left given kept) (told_of left now kept) unfetched ungiven → said tests opened

  abbrev RefusesSo : Status → Type 0
  RefusesSo status = (tests : Tests) (fault : MapFault) → status ≡ MapRefused fault → Grew given now (opening_text (Refused fault)) → said tests (Refused fault)

  -- Nothing was given, whatever bytes there are.
  quiet_says : (status : Status) (bytes : List ℕ) → Stops status → LongSays status (told_of left given kept) (told_of left now kept) unfetched →
      ((text : List ℕ) → StoppedTelling status text (told_of left given kept) (told_of left now kept) unfetched ungiven) →
      FoundSays (Some bytes) status (told_of left given kept) (told_of left now kept) unfetched said
  quiet_says status bytes stops long stopped =
      match_both (nat_lt LIMIT (length bytes)) (LongSays status (told_of left given kept) (told_of left now kept) unfetched) (OpensOnce bytes said) long
      (let way = some bytes in once one bytes said way.0 way.1 (λ tests. stops tests way.0 (stopped (opening_text way.0))))

  pub not_opened : (status : Status) (found : Option (List ℕ)) → Stops status → RefusesSo status → (status ≡ ReadFault → unfetched) → (status ≡ WriteFault → ungiven) →
      NotOpened status found given now → FoundSays found status (told_of left given kept) (told_of left now kept) unfetched said
  not_opened ReadFault None stops refuses f g h = (inl refl, ap (λ x. told_of left x kept) h)
  not_opened ReadFault (Some bytes) stops refuses f g h =
      let same = ap (λ x. told_of left x kept) h in quiet_says ReadFault bytes stops (f refl, same) (λ text. (f refl, same))
  not_opened Memory None stops refuses f g h = (inr refl, ap (λ x. told_of left x kept) h)
  not_opened Memory (Some bytes) stops refuses f g h =
      let same = ap (λ x. told_of left x kept) h in quiet_says Memory bytes stops same (λ text. same)
  not_opened (TooLong Map) None stops refuses f g h = absurd h.0
  not_opened (TooLong Map) (Some bytes) stops refuses f g h =
      match_true (nat_lt LIMIT (length bytes)) (LongSays (TooLong Map) (told_of left given kept) (told_of left now kept) unfetched) (OpensOnce bytes said)
      (lt-ltb LIMIT (length bytes) h.0) (ap (λ x. told_of left x kept) h.1)
  not_opened (TooLong Script) found stops refuses f g h = absurd h
  not_opened (MapRefused fault) found stops refuses f g h =
      found_read found h.bytes (MapRefused fault) (told_of left given kept) (told_of left now kept) unfetched said h.found_is h.fits
      (once one h.bytes said (Refused fault) h.so.0 (λ tests. refuses tests fault refl h.so.1))
  not_opened WriteFault found stops refuses f g h =
      found_read found h.bytes WriteFault (told_of left given kept) (told_of left now kept) unfetched said h.found_is h.fits
      (once one h.bytes said h.so.0 h.so.1 (λ tests. stops tests h.so.0 (g refl, h.so.2, (refl, refl))))
  not_opened Usage found stops refuses f g h = absurd h
  not_opened Ended found stops refuses f g h = absurd h
