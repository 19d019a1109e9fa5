use Rattle.std.proofs.Common.{◌≡◌, Result, Ok, Err, true, ap, sym, ◌∙◌, subst, [], ◌∷◌, ◌++◌}
use Rattle.std.specs.Prelude.{is_ok, OnOk}
use Rattle.outside_io.specs.Texts.{HoldsUnder}
use Rattle.outside_io.proofs.Named.{holds_added}
use Rattle.outside_io.proofs.mem_vault.MemVaultVault.keep.Goals as goal

ok_holds : {T E P : Type 0} (r : Result T E) → is_ok r ≡ true → OnOk r P → P
ok_holds (Ok x) e h = h
ok_holds (Err x) e h = cc

pub returns-then-is_ok-clause-texts : goal.returns-then-is_ok-clause-texts
returns-then-is_ok-clause-texts c =
    let name = c.args.name.now in
    let bytes = c.args.bytes.now in
    let added = ok_holds c.add.result (sym c.is_ok.ensures.value ∙ c.if-is_ok.true) c.add.ensures.ok in
    let now = ap (λ v. v.texts ++ (name, bytes) ∷ []) (sym c.self.view_is) ∙ ap (λ v. v.texts) (sym added) in
    subst (λ texts. HoldsUnder c.args.self.now.texts texts name bytes) now (holds_added c.args.self.now.texts name bytes)
