-- What an import of an exported file leaves: the store as it was, and the roots, whichever way the file was written.
use mathlib.Core.Path.{◌≡◌, refl, sym, ◌∙◌}
use mathlib.Core.Bool.{true, false}
use mathlib.Core.List.{List}
use Prim.Native.Nat.{ℕ}
use lib.IntN.{ℤ}
use Rattle.codes.specs.Limits.{Limits, RoomForExports}
use Rattle.codes.specs.declared.DDDMPVersion.{DDDMPVersion}
use Rattle.read_text.specs.Text.{Place}
use Rattle.store.specs.Store.{Store}
use Rattle.header.specs.Header.{Header, header, answer_of}
use Rattle.heading.specs.Tables.{Lent}
use Rattle.exported.specs.Settings.{Settings, settings}
use Rattle.exported.specs.Export.{export_fault, heading_of, file_of}
use Rattle.reading_header.specs.HeaderBack.{header_for}
use Rattle.reading_back.specs.ReadsBack.{own_levels, ReadsBack, import_by, GivesBack, ReadAlike}
use Rattle.reading_back.proofs.ReadsBack.{reads-back}

-- An import into the store that the file came from, as the header that is read leads to it, gives back the roots.
pub led-back : {m : Limits} {s : Settings} {σ : Store} {roots : List ℤ} {order : List ℕ} {p : Lent} {f : List ℕ} {lent : ℕ} {h : Header}
    → ReadsBack m s σ roots order p f lent → answer_of m f ≡ header h → GivesBack σ roots lent (import_by m f h σ (own_levels σ roots) lent)
unfolding heading_of
led-back {m} {s} {σ} {roots} {order} {p} {f} {lent} {h} b e =
    let H = b.header_back in
    let same : h ≡ header_for (heading_of s σ roots order p) H.dd = cc in
    rw (same, H.roots, b.nodes_back.imported) (record { end = _; accepted = refl; unchanged = refl; same = refl })

-- Two files that read back the same roots, be they text or binary, of either version: what is imported is the same.
pub alike-back : {m : Limits} {s t : Settings} {σ : Store} {roots : List ℤ} {order others : List ℕ} {p q : Lent} {f g : List ℕ} {lent : ℕ}
    {h k : Header} → ReadsBack m s σ roots order p f lent → ReadsBack m t σ roots others q g lent
    → answer_of m f ≡ header h → answer_of m g ≡ header k
    → ReadAlike (import_by m f h σ (own_levels σ roots) lent) (import_by m g k σ (own_levels σ roots) lent)
alike-back b c d e =
    let x = led-back b d in
    let y = led-back c e in
    record { store = x.unchanged ∙ sym y.unchanged; roots = x.same ∙ sym y.same }

-- So text and binary of one export read back alike.
module _ {m : Limits} (W : RoomForExports m) (σ : Store) (roots : List ℤ) (order : List ℕ) (p : Lent) (slots numbers out : ℕ)
    (e : export_fault m σ roots order p slots numbers out ≡ 0) (version : DDDMPVersion) (dd : Place) where
  abbrev text : List ℕ
  text = file_of (settings version true dd) σ roots order p

  abbrev binary : List ℕ
  binary = file_of (settings version false dd) σ roots order p

  pub text-as-binary : (lent : ℕ) {h k : Header} → answer_of m text ≡ header h → answer_of m binary ≡ header k
      → ReadAlike (import_by m text h σ (own_levels σ roots) lent) (import_by m binary k σ (own_levels σ roots) lent)
  text-as-binary lent =
      alike-back
      (reads-back W σ roots order p slots numbers out e (settings version true dd) lent)
      (reads-back W σ roots order p slots numbers out e (settings version false dd) lent)
