-- The lines of replies.
use Rattle.std.specs.Prelude.{◌≡◌, ◌≢◌, ℕ, ◌==◌, if◌then◌else◌, List, [], ◌∷◌, ◌++◌, Option, Some, None, map, codes}
use Rattle.std.specs.Fmt.{decimal}
use Rattle.cmd_text.specs.declared.reply.Refusal.{Refusal}
use Rattle.cmd_text.specs.declared.reply.Refusal.TheVariants.{LineTooLong, UnknownCommand, Arguments, NotBuilt, NoNode, Repeated, WrongKind, NestedIds, LockedLayer, TwoMembers, ReservedKey, NoKey, NotLinked, NestedLink, LockNeedsValve, Rotation, FlatPlane, PlaneMisses, Apart, NotBox, Thick, NoVertex, FractionalVertex, TooManyPoints, PointRange, NoVolume, TooManyFaces, OutOfWorld, LockOffset, Origin, ShiftRange, EmptyLink, Full, LinkPoint, LinkWorld, LinkLock, LinkOrigin, LinkShift, NothingToUndo, NothingToRedo, NoRay}
use Rattle.cmd_text.specs.declared.reply.Reply.{Reply}
use Rattle.cmd_text.specs.declared.reply.Reply.TheVariants as reply
use Rattle.cmd_text.specs.Lines.{Words, words, line_text, ratio_text}

-- THE TABLE of refusals: the name of each, and its fields
abbrev pub refusal_words : Refusal → Words
refusal_words LineTooLong = words (codes "no line-too-long") []
refusal_words UnknownCommand = words (codes "no unknown-command") []
refusal_words (Arguments place) = words (codes "no arguments") (decimal place ∷ [])
refusal_words NotBuilt = words (codes "no not-built") []
refusal_words (NoNode node) = words (codes "no no-node") (decimal node ∷ [])
refusal_words (Repeated node) = words (codes "no repeated") (decimal node ∷ [])
refusal_words (WrongKind node) = words (codes "no wrong-kind") (decimal node ∷ [])
refusal_words (NestedIds node) = words (codes "no nested-ids") (decimal node ∷ [])
refusal_words (LockedLayer node) = words (codes "no locked-layer") (decimal node ∷ [])
refusal_words (TwoMembers group) = words (codes "no two-members") (decimal group ∷ [])
refusal_words (ReservedKey node) = words (codes "no reserved-key") (decimal node ∷ [])
refusal_words (NoKey node) = words (codes "no no-key") (decimal node ∷ [])
refusal_words (NotLinked node) = words (codes "no not-linked") (decimal node ∷ [])
refusal_words (NestedLink node) = words (codes "no nested-link") (decimal node ∷ [])
refusal_words LockNeedsValve = words (codes "no lock-needs-valve") []
refusal_words (Rotation node face) = words (codes "no rotation") (decimal node ∷ decimal face ∷ [])
refusal_words FlatPlane = words (codes "no flat-plane") []
refusal_words (PlaneMisses node) = words (codes "no plane-misses") (decimal node ∷ [])
refusal_words (Apart node) = words (codes "no apart") (decimal node ∷ [])
refusal_words (NotBox node) = words (codes "no not-box") (decimal node ∷ [])
refusal_words (Thick node) = words (codes "no thick") (decimal node ∷ [])
refusal_words (NoVertex place) = words (codes "no no-vertex") (decimal place ∷ [])
refusal_words (FractionalVertex node) = words (codes "no fractional-vertex") (decimal node ∷ [])
refusal_words (TooManyPoints count) = words (codes "no too-many-points") (decimal count ∷ [])
refusal_words (PointRange node face) = words (codes "no point-range") (decimal node ∷ decimal face ∷ [])
refusal_words (NoVolume node) = words (codes "no no-volume") (decimal node ∷ [])
refusal_words (TooManyFaces node count) = words (codes "no too-many-faces") (decimal node ∷ decimal count ∷ [])
refusal_words (OutOfWorld node) = words (codes "no out-of-world") (decimal node ∷ [])
refusal_words (LockOffset node face offset) = words (codes "no lock-offset") (decimal node ∷ decimal face ∷ ratio_text offset ∷ [])
refusal_words (Origin node) = words (codes "no origin") (decimal node ∷ [])
refusal_words (ShiftRange group) = words (codes "no shift-range") (decimal group ∷ [])
refusal_words (EmptyLink group) = words (codes "no empty-link") (decimal group ∷ [])
refusal_words (Full count) = words (codes "no full") (decimal count ∷ [])
refusal_words (LinkPoint member node face) = words (codes "no link-point") (decimal member ∷ decimal node ∷ decimal face ∷ [])
refusal_words (LinkWorld member node) = words (codes "no link-world") (decimal member ∷ decimal node ∷ [])
refusal_words (LinkLock member node face) = words (codes "no link-lock") (decimal member ∷ decimal node ∷ decimal face ∷ [])
refusal_words (LinkOrigin member node) = words (codes "no link-origin") (decimal member ∷ decimal node ∷ [])
refusal_words (LinkShift member) = words (codes "no link-shift") (decimal member ∷ [])
refusal_words NothingToUndo = words (codes "no nothing-to-undo") []
refusal_words NothingToRedo = words (codes "no nothing-to-redo") []
refusal_words NoRay = words (codes "no no-ray") []

-- how many nodes were made, and the number of the first where there is one
abbrev pub made_words : ℕ → ℕ → Words
made_words count first = words (codes "ok") (if count == 0 then decimal 0 ∷ [] else decimal count ∷ decimal first ∷ [])

-- the face that a ray meets, or `-` where it begins inside the brush
abbrev pub face_text : Option ℕ → List ℕ
face_text None = codes "-"
face_text (Some face) = decimal face

-- THE TABLE of replies
abbrev pub reply_words : Reply → Words
reply_words reply.Ok = words (codes "ok") []
reply_words (reply.Made count first) = made_words count first
reply_words (reply.Uv at) = words (codes "ok") (map ratio_text at)
reply_words (reply.Hit node face at) = words (codes "ok") (decimal node ∷ face_text face ∷ ratio_text at ∷ [])
reply_words reply.NoHit = words (codes "ok") (codes "none" ∷ [])
reply_words (reply.No refusal) = refusal_words refusal
reply_words reply.Memory = words (codes "memory") []

-- the bytes of a reply
unfoldable pub reply_line : Reply → List ℕ
reply_line reply = line_text (reply_words reply)

-- Only the reply to want of memory begins with the line `memory`, whatever follows it.
abbrev pub OnlyWantSaysMemory : Type 0
OnlyWantSaysMemory = (r : Reply) (x y : List ℕ) → r ≢ reply.Memory → reply_line r ++ x ≡ (codes "memory" ++ 10 ∷ []) ++ y → ⊥
