-- The header of an export, read back: it is accepted, and all that it says comes back.
use mathlib.Core.Path.{◌≡◌}
use mathlib.Core.List.{List, ◌++◌}
use Prim.Native.Nat.{ℕ, ◌-◌, ◌≤◌}
use lib.ListN.{length}
use Rattle.codes.specs.Limits.{Limits}
use Rattle.header_lines.specs.Sweep.{Span}
use Rattle.header_keys.specs.declared.Key.TheVariants.{Dd}
use Rattle.header_values.specs.Values.{span_in, value_in, ascii_in, varinfo_in, dd_in}
use Rattle.export_names.specs.Names.{name_at}
use Rattle.header.specs.Header.{header, table_of, read_of, answer_of}
use Rattle.header.proofs.Lengths.{none-length}
use Rattle.heading.specs.Heading.{Heading, head_text}
use Rattle.reading_header.specs.Joined.{trimmed}
use Rattle.reading_header.specs.HeaderBack.{Fit, header_for, HeaderBack}
use Rattle.reading_header.specs.ValuesBack.{ValuesBack}
use Rattle.reading_header.proofs.DiagramBack.{diagram-back, text-there}
use Rattle.reading_header.proofs.IntroBack.{mode-back, varinfo-back}
use Rattle.reading_header.proofs.HeadValues.{HeadValues}
use Rattle.reading_header.proofs.HeadBack.{head-end, head-table}
use Rattle.reading_header.proofs.ValuesBack.{values-back}
use Rattle.reading_header.proofs.WholeBack.{whole_back, order_read, supp-name-read, all-names-read}

-- A file that starts with an export's header, whatever follows.
module _ (m : Limits) (h : Heading) (f r : List ℕ) (fit : Fit h) (few : h.nnodes ≤ m.nodes) (short : length f ≤ m.input)
    (e : f ≡ head_text h ++ r) where
  abbrev t : List Span
  t = table_of f

  -- what the last value of each key is, and says
  values : HeadValues h (value_in f t)
  values = head-table fit f r e

  read : ValuesBack h f t
  read = values-back fit values

  -- the mode and `.varinfo`
  ascii-read : ascii_in f t ≡ h.ascii
  unfolding ascii_in
  ascii-read = rw values.mode (mode-back h.ascii)

  varinfo-read : varinfo_in f t ≡ 4
  unfolding varinfo_in
  varinfo-read = rw values.varinfo varinfo-back

  -- the diagram's name, where it stands
  dd-there : name_at f (dd_in f t) ≡ trimmed h.dd
  unfolding dd_in
  dd-there =
      let at = (span_in t Dd).start in
      rw (values.dd, diagram-back at h.dd fit.dd) (text-there f ((span_in t Dd).end - at) at (trimmed h.dd) values.dd)

  -- The header is accepted,
  accepted : answer_of m f ≡ header (header_for h (dd_in f t))
  unfolding answer_of read_of
  accepted =
      rw (none-length m (length f) short, head-end fit f r e, whole_back fit read m few, ascii-read, varinfo-read)
      (rw (read.nnodes, read.nvars, read.nsuppvars, read.nroots))

  -- and gives back what was written.
  pub header_back : HeaderBack m h f
  header_back = record {
    dd = dd_in f t;
    answer = accepted;
    diagram = dd-there;
    ids = rw accepted read.ids;
    permids = rw accepted read.permids;
    order = rw accepted (order_read fit read);
    auxids = rw accepted read.auxids;
    roots = rw accepted read.roots;
    rootnames = rw accepted read.rootnames.there;
    supp_names_said = λ i s. rw accepted (supp-name-read fit read i s);
    all_names_said = λ version. rw accepted (all-names-read fit read version);
  }
