-- A run over the words `export MAP OUT` that meets no fault ends.
use Rattle.std.proofs.Common.{◌≡◌, ◌≢◌, ◌⊎◌, ℕ, List, Option, Some, None, refl, subst, inl, inr, ⊎_elim}
use Rattle.outside_io.specs.Moved.{Rose}
use Rattle.outside_io.specs.Texts.{Texts, text_named}
use Rattle.map_opening.specs.Opening.{Tree, opening_text}
use Rattle.obj_export.specs.declared.obj.Obj.{Obj}
use Rattle.edit_session.specs.declared.status.Status.{Status}
use Rattle.edit_session.specs.declared.status.Status.TheVariants.{Ended, Usage, ReadFault, WriteFault, MapRefused, Memory, TooLong}
use Rattle.edit_session.specs.Devices.{Counts, Unfetched, WriteCause}
use Rattle.edit_session.specs.ExportRun.{Exports, ExportedSays, ExportCausedBy}
use Rattle.edit_session.specs.Completeness.{NoneFull, QuietExportsEnd, QuietExportsMeetNoFault}
use Rattle.edit_session.proofs.Quiet.{did_not_rise, says_opened, some_named, no_fetch_fault, no_write_fault, only_memory}

-- What is left are the two ends.
export_end : (status : Status) (texts : Texts) (name out : List ℕ) (o : Obj) (given now : Option (List ℕ)) (kept kept_now : Option Texts) (counts : Counts) (ungiven : Type 0) → NoneFull counts →
    ExportCausedBy status (Some texts) name counts counts → Exports status out o given now kept kept_now ungiven → (status ≡ Ended) ⊎ (status ≡ Memory)
export_end Ended texts name out o given now kept kept_now counts ungiven some cause says = inl refl
export_end Memory texts name out o given now kept kept_now counts ungiven some cause says = inr refl
export_end WriteFault texts name out o given now kept kept_now counts ungiven some cause says = absurd (no_write_fault counts some cause)
export_end ReadFault texts name out o given now kept kept_now counts ungiven some cause says = absurd says
export_end (TooLong which) texts name out o given now kept kept_now counts ungiven some cause says = absurd says
export_end (MapRefused fault) texts name out o given now kept kept_now counts ungiven some cause says = absurd says
export_end Usage texts name out o given now kept kept_now counts ungiven some cause says = absurd says

pub quiet_exports_end : QuietExportsEnd
quiet_exports_end map out status texts before now counts run some can =
    let named = some_named texts map can.bytes can.named in
    let unfetched = Unfetched (Some texts) map counts counts in
    let ungiven = Rose counts.gives counts.gives in
    ⊎_elim
    (λ stopped. inr (only_memory (opening_text (Tree can.whole can.notes)) before now unfetched ungiven (no_fetch_fault texts map counts some named) (did_not_rise counts.gives some.gives) status stopped))
    (λ all. export_end status texts map out _ all.0 now.given before.kept now.kept counts ungiven some run.cause all.2.1)
    (says_opened texts map status before now unfetched (ExportedSays out status before now unfetched ungiven) can run.says)

-- What is left is no fault.
exported_read : (texts : Texts) (map : List ℕ) (counts : Counts) → ExportCausedBy ReadFault (Some texts) map counts counts → Unfetched (Some texts) map counts counts
exported_read texts map counts c = c.0

pub quiet_exports_meet_no_fault : QuietExportsMeetNoFault
quiet_exports_meet_no_fault map out status texts before now counts run some named = (
  λ e. no_fetch_fault texts map counts some named (exported_read texts map counts (subst (λ s. ExportCausedBy s (Some texts) map counts counts) e run.cause)),
  λ e. no_write_fault counts some (subst (λ s. ExportCausedBy s (Some texts) map counts counts) e run.cause),
)
