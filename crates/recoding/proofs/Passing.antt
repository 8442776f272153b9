-- What an export of a loaded file is handed: settings, the variables' levels, and names where all are there.
use mathlib.Core.Path.{◌≡◌, refl, sym, ap, ◌∙◌}
use mathlib.Core.Bool.{Bool, true, false, cond}
use mathlib.Core.List.{List, [], ◌∷◌}
use Prim.Native.Nat.{ℕ, ◌≤◌}
use native.Mathlib.Omega.{arith}
use lib.ListN.{length, take, length-map}
use lib.IntN.{ℤ}
use Rattle.codes.specs.Lent.{laid}
use Rattle.codes.specs.Answer.{Read}
use Rattle.codes.specs.Limits.{limits, var_limit}
use Rattle.codes.specs.declared.DDDMPVersion.TheVariants.{V2_0}
use Rattle.codes.proofs.Lent.{length-laid}
use Rattle.read_text.specs.Text.{place}
use Rattle.header_values.proofs.Padded.{take-laid}
use Rattle.variable_names.proofs.Free.{length-ordered_seats}
use Rattle.store.specs.Store.{Store}
use Rattle.header.specs.Header as head
use Rattle.header.specs.Kinds.{of_header}
use Rattle.header.specs.declared.DumpHeader.{DumpHeader}
use Rattle.heading.specs.Tables.{lent}
use Rattle.exported.specs.Settings.{Settings, settings, defaults}
use Rattle.exported.specs.Export.{Export, export_into, export_of}
use Rattle.exporter.specs.Settings.{of_settings}
use Rattle.exporter.specs.declared.ExportSettings.{ExportSettings}
use Rattle.recode_levels.specs.Levels.{variable_levels, JudgedLevels}
use Rattle.recoding.specs.Recode.{slots_lent, all_there, passed, export_with, of_read, of_export}

-- the defaults, then text, then the place of the diagram's name
pub text-settings : (a b c : ExportSettings) {start len : ℕ} → of_settings a ≡ defaults
    → of_settings b ≡ settings a.version true (of_settings a).dd
    → of_settings c ≡ settings b.version b.ascii (place start len) → of_settings c ≡ settings V2_0 true (place start len)
text-settings a b c {start} {len} p q r =
    r ∙ ap (λ s. settings s.version s.ascii (place start len)) (q ∙ ap (λ s. settings s.version true s.dd) p)

-- the front of a list that is as long as the list is the list
take_all : (l : List ℕ) → take (length l) l ≡ l
take_all [] = refl
take_all (x ∷ l) = ap (λ t. x ∷ t) (take_all l)

-- starts or lengths, as many as there are lengths: so many of them are passed on
module _ (lens l : List ℕ) (e : length l ≡ length lens) (n : ℕ) (q : n ≡ cond (all_there lens) (length lens) 0) where
  -- what is passed on is all of them, or none
  pub passed_is : take n l ≡ passed lens l
  passed_is = go (all_there lens) q
    where
      go : (b : Bool) → n ≡ cond b (length lens) 0 → take n l ≡ cond b l []
      go true k = rw (k, sym e) (take_all l)
      go false k = rw k

  -- and has that many entries
  pub passed-long : n ≡ length (take n l)
  passed-long = go (all_there lens) q
    where
      go : (b : Bool) → n ≡ cond b (length lens) 0 → n ≡ length (take n l)
      go true k = let w : take n l ≡ l = rw (k, sym e) (take_all l) in k ∙ sym e ∙ ap length (sym w)
      go false k = rw k

-- the variables' levels, laid over a list that is long enough
module _ (nvars : ℕ) (ids permids : List ℕ) (J : JudgedLevels nvars ids permids) (old dst : List ℕ) (long : length old ≡ var_limit)
    (d : dst ≡ laid (variable_levels nvars ids permids) old) where
  -- there is one for each variable
  levels_counted : length (variable_levels nvars ids permids) ≡ nvars
  unfolding variable_levels
  levels_counted = rw length-map (length-ordered_seats nvars ids permids)

  -- they fit
  pub order-fits : nvars ≤ length dst
  order-fits =
      let k = ap length d ∙ length-laid (variable_levels nvars ids permids) old in
      let few = J.few in
      omega (arith, long)

  -- and are its front
  pub order_is : take nvars dst ≡ variable_levels nvars ids permids
  order_is =
      let few = J.few in
      let c = levels_counted in
      let es = variable_levels nvars ids permids in
      ap (λ n. take n dst) (sym c) ∙ ap (λ l. take (length es) l) d ∙ take-laid es old (omega (arith, long))

  -- which has as many entries as there are variables
  pub order_long : nvars ≡ length (take nvars dst)
  order_long = sym levels_counted ∙ ap length (sym order_is)

-- The export of such parts is the one that the definition names.
module _ (f : List ℕ) (h : head.Header) (roots : List ℤ) (ids permids names lens rootnames rootlens : List ℕ) (out : ℕ) where
  pub exporting : {s : Settings} {order starts ls rootstarts rls : List ℕ} {a b : ℕ}
      → s ≡ settings V2_0 true h.dd → order ≡ variable_levels h.nvars ids permids
      → starts ≡ passed lens names → ls ≡ passed lens lens → rootstarts ≡ passed rootlens rootnames → rls ≡ passed rootlens rootlens
      → a ≡ slots_lent → b ≡ slots_lent
      → export_into s roots order (lent f starts ls rootstarts rls s.dd) a b out
      ≡ export_with f h roots ids permids names lens rootnames rootlens out
  exporting e1 e2 e3 e4 e5 e6 e7 e8 = rw (e1, e2, e3, e4, e5, e6, e7, e8)

-- What `write_back` hands over, with settings made one after the other, levels that are laid over a list, and the fronts of names.
module _ (f : List ℕ) (h : DumpHeader) (roots : List ℤ) (ids permids names lens rootnames rootlens : List ℕ) (J : JudgedLevels h.nvars ids permids)
    (N : (length names ≡ length lens) × (length rootnames ≡ length rootlens)) where
  pub handed : (a b c : ExportSettings) → of_settings a ≡ defaults → of_settings b ≡ settings a.version true (of_settings a).dd
      → of_settings c ≡ settings b.version b.ascii (place h.dd.start h.dd.len)
      → (old order : List ℕ) → length old ≡ var_limit → order ≡ laid (variable_levels h.nvars ids permids) old
      → (named rooted : ℕ) → named ≡ cond (all_there lens) (length lens) 0 → rooted ≡ cond (all_there rootlens) (length rootlens) 0
      → (x y out : ℕ) → x ≡ slots_lent → y ≡ slots_lent
      → export_into (of_settings c) roots (take h.nvars order)
      (lent f (take named names) (take named lens) (take rooted rootnames) (take rooted rootlens) (of_settings c).dd) x y out
      ≡ export_with f (of_header h) roots ids permids names lens rootnames rootlens out
  handed a b c p q r old order long d named rooted n k x y out e g =
      exporting f (of_header h) roots ids permids names lens rootnames rootlens out (text-settings a b c p q r)
      (order_is h.nvars ids permids J old order long d) (passed_is lens names N.0 named n) (passed_is lens lens refl named n)
      (passed_is rootlens rootnames N.1 rooted k) (passed_is rootlens rootlens refl rooted k) e g

-- an export that is another's: what the program answers, and leaves
module _ {x y : Export} (same : x ≡ y) (σ : Store) where
  pub exports-answer : {a : Read ℕ} → a ≡ (export_of limits x σ).answer → of_read a ≡ (of_export (export_of limits y σ)).answer
  exports-answer e = ap of_read (e ∙ ap (λ z. (export_of limits z σ).answer) same)

  pub exports-out : {o : List ℕ} → o ≡ (export_of limits x σ).out → o ≡ (of_export (export_of limits y σ)).out
  exports-out e = e ∙ ap (λ z. (export_of limits z σ).out) same
