-- The lines of a header hold plain words, and values without faults.
use mathlib.Core.Path.{◌≡◌, refl}
use mathlib.Core.Bool.{Bool, true, false}
use mathlib.Core.List.{List, [], ◌∷◌}
use Prim.Native.Nat.{ℕ, ◌^◌}
use native.Mathlib.Omega.{arith}
use lib.Dec.{eqb}
use lib.ListN.{length}
use Rattle.codes.specs.declared.DDDMPVersion.{DDDMPVersion}
use Rattle.codes.specs.declared.DDDMPVersion.TheVariants.{V2_0, V3_0}
use Rattle.read_lines.specs.Each.{Each, none, each}
use Rattle.header_keys.specs.declared.Key.{Key}
use Rattle.header_keys.specs.declared.Key.TheVariants.{Ver, Mode, Varinfo, Dd, Nnodes, Nvars, Nsuppvars, Nroots, Nodes, Varnames, Suppvarnames, Orderedvarnames, Ids, Permids, Rootids, Rootnames}
use Rattle.header_keys.specs.Keys.{slot_of}
use Rattle.header_faults.specs.Judge.{fault_of}
use Rattle.header_values.specs.Values.{KnownKey}
use Rattle.heading.specs.Lines.{HeaderLine, line}
use Rattle.heading.specs.Heading.{Heading, version_text, mode_text}
use Rattle.export_names.proofs.FitNames.{fit_line}
use Rattle.reading_header.specs.Joined.{Plain, joined}
use Rattle.reading_header.specs.HeadWords.{FewNames}
use Rattle.reading_header.specs.HeaderBack.{Fit}
use Rattle.reading_header.proofs.Elements.{each-by}
use Rattle.reading_header.proofs.Plain.{literal-plain, name-plain}
use Rattle.reading_header.proofs.WordsBack.{joined-one}
use Rattle.reading_header.proofs.NumbersBack.{decimal-plain, decimals-plain, single-faultless, numbers-faultless}
use Rattle.reading_header.proofs.EdgesBack.{edges-plain, edges-faultless}
use Rattle.reading_header.proofs.NamesBack.{names-faultless}
use Rattle.reading_header.proofs.DiagramBack.{diagram-faultless}
use Rattle.reading_header.proofs.IntroBack.{version-faultless, mode-faultless, varinfo-faultless}
use Rattle.reading_header.proofs.LineBack.{Written}
use Rattle.reading_header.proofs.LineValues.{value-single, value-joined}
use Rattle.reading_header.proofs.LinesBack.{Early, Faultless}
use Rattle.reading_header.proofs.HeadLines.{PlainLine, EachLine, groups_of, together, each-early}
use Rattle.reading_header.proofs.SupportBack.{supported}
use Rattle.reading_header.proofs.HeadBounds.{ids-small, levels-small, roots-small, varnames-few, suppvarnames-few, orderedvarnames-few, rootnames-few}

-- a line that is found again, and leads on
pub record Sound (l : HeaderLine) : Type 0 where
  pub written : Written l
  pub early : Early l
  pub faultless : Faultless l

-- a line of plain words
plain-sound : (k : Key) {ws : List (List ℕ)} → KnownKey k → eqb (slot_of k) (slot_of Nodes) ≡ false → Each Plain ws
    → ((at : ℕ) → fault_of k at (joined ws) ≡ 0) → Sound (line k ws)
plain-sound k {ws} n e p f = record {
  written = record { known = n; words = each-by (λ w q. q.line) p };
  early = e;
  faultless = λ at. rw (value-joined (line k ws) p) (f at);
}

-- the words that are written out
version-plain : (v : DDDMPVersion) → Plain (version_text v)
version-plain V2_0 = literal-plain 0x44 _ refl
version-plain V3_0 = literal-plain 0x44 _ refl

mode-plain : (ascii : Bool) → Plain (mode_text ascii)
mode-plain true = literal-plain 0x41 _ refl
mode-plain false = literal-plain 0x42 _ refl

one : {w : List ℕ} → Plain w → Each Plain (w ∷ [])
one p = each p none

-- a line of names
names-plain : {max : ℕ} {ws : List (List ℕ)} → FewNames max ws → Each Plain ws
names-plain n = each-by name-plain n.fit

module _ {h : Heading} (fit : Fit h) where
  -- All lines but the diagram's are of plain words,
  pub lines-plain : EachLine PlainLine h
  lines-plain = record {
    ver = one (version-plain h.version);
    mode = one (mode-plain h.ascii);
    varinfo = one (literal-plain 0x34 [] refl);
    nnodes = one (decimal-plain h.nnodes (omega (arith, fit.few_nodes)));
    nvars = one (decimal-plain (length h.order) (omega (arith, fit.few_variables)));
    nsuppvars = one (decimal-plain (length h.support) (omega (arith, fit.few_variables, (supported fit).few)));
    varnames = names-plain (varnames-few fit);
    suppvarnames = names-plain (suppvarnames-few fit);
    orderedvarnames = names-plain (orderedvarnames-few fit);
    ids = decimals-plain (ids-small fit);
    permids = decimals-plain (levels-small fit);
    nroots = one (decimal-plain (length h.rootids) (omega (arith, fit.few_roots)));
    rootids = edges-plain (roots-small fit);
    rootnames = names-plain (rootnames-few fit);
  }

  -- and have no fault;
  lines-sound : EachLine Sound h
  unfolding fault_of
  lines-sound =
      let p = lines-plain in
      let vars = fit.few_variables in
      let nodes = fit.few_nodes in
      let roots = fit.few_roots in
      let supp = supported fit in
      record {
        ver = plain-sound Ver (omega arith) refl p.ver (λ at. rw joined-one (version-faultless h.version));
        mode = plain-sound Mode (omega arith) refl p.mode (λ at. rw joined-one (mode-faultless h.ascii));
        varinfo = plain-sound Varinfo (omega arith) refl p.varinfo (λ at. rw joined-one varinfo-faultless);
        nnodes =
            plain-sound Nnodes (omega arith) refl p.nnodes
            (λ at. single-faultless h.nnodes (omega arith) (2 ^ 64) (omega arith));
        nvars =
            plain-sound Nvars (omega arith) refl p.nvars
            (λ at. single-faultless (length h.order) (omega arith) (2 ^ 32) (omega arith));
        nsuppvars =
            plain-sound Nsuppvars (omega arith) refl p.nsuppvars
            (λ at. single-faultless (length h.support) (omega arith) (2 ^ 32) (omega arith));
        varnames = plain-sound Varnames (omega arith) refl p.varnames (λ at. names-faultless at (varnames-few fit));
        suppvarnames = plain-sound Suppvarnames (omega arith) refl p.suppvarnames (λ at. names-faultless at (suppvarnames-few fit));
        orderedvarnames = plain-sound Orderedvarnames (omega arith) refl p.orderedvarnames (λ at. names-faultless at (orderedvarnames-few fit));
        ids = plain-sound Ids (omega arith) refl p.ids (λ at. numbers-faultless (ids-small fit) (omega arith));
        permids = plain-sound Permids (omega arith) refl p.permids (λ at. numbers-faultless (levels-small fit) (omega arith));
        nroots =
            plain-sound Nroots (omega arith) refl p.nroots
            (λ at. single-faultless (length h.rootids) (omega arith) (2 ^ 64) (omega arith));
        rootids = plain-sound Rootids (omega arith) refl p.rootids (λ at. edges-faultless (roots-small fit) roots);
        rootnames = plain-sound Rootnames (omega arith) refl p.rootnames (λ at. names-faultless at (rootnames-few fit));
      }

  -- so has the diagram's.
  dd-sound : Sound (line Dd (h.dd ∷ []))
  unfolding fault_of
  dd-sound = record {
    written = record { known = omega arith; words = each (fit_line true h.dd fit.dd) none };
    early = refl;
    faultless = λ at. rw (value-single Dd h.dd) (diagram-faultless at h.dd fit.dd);
  }

  pub early-sound : Each Sound (together (groups_of h))
  early-sound = each-early lines-sound dd-sound
