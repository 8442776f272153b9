-- The header that is read is the one that the file's lines say, and they say no other.
use mathlib.Core.Path.{◌≡◌, sym, ◌∙◌}
use mathlib.Core.List.{List}
use mathlib.Core.Option.{some-injective}
use Prim.Native.Nat.{ℕ, ◌^◌}
use native.Mathlib.Omega.{arith}
use Rattle.codes.specs.Limits.{Limits, var_limit, root_limit}
use Rattle.read_lines.specs.Each.{Each}
use Rattle.header_keys.specs.declared.Key.TheVariants.{Nnodes, Nvars, Nsuppvars, Nroots, Varnames, Suppvarnames, Orderedvarnames, Ids, Permids, Auxids, Rootnames}
use Rattle.header_lines.specs.Sweep.{lines_of}
use Rattle.header_lines.specs.SoundLines.{SoundLine, SoundLines}
use Rattle.header_lines.proofs.LastLines.{last-each}
use Rattle.header_values.proofs.ValuesSaid as values
use Rattle.support.proofs.ByPermid.{support-arranged}
use Rattle.variable_names.proofs.RestInOrder.{names_said}
use Rattle.header_checks.specs.WholeRules.{WholeRules}
use Rattle.header_checks.specs.Names.{varnames_in, orderedvarnames_in, suppvarnames_in, variable_names_in}
use Rattle.header.specs.Header.{Header, HeaderAnswer, header_in, table_of, lists_in}
use Rattle.header.specs.HeaderSaid.{head_lines_of, HeaderSaid, ListsSaid}

module _ (f : List ℕ) (next lines : ℕ) (sound : SoundLines f (lines_of f) next lines) where
  abbrev each_line : Each (SoundLine f) (head_lines_of f)
  each_line = sound.each_sound

  -- what is read of sound lines is what they say
  pub header-said : HeaderSaid f (header_in f (table_of f) next lines)
  unfolding table_of
  header-said = record {
    mode_said = values.mode_said f (head_lines_of f) each_line;
    varinfo_said = values.varinfo_said f (head_lines_of f) each_line;
    dd_said = values.text-said f (head_lines_of f) each_line;
    nnodes_said = values.number-said f (head_lines_of f) Nnodes (omega arith) (2 ^ 64) (λ v l. last-each l each_line);
    nvars_said = values.number-said f (head_lines_of f) Nvars (omega arith) (2 ^ 32) (λ v l. last-each l each_line);
    nsuppvars_said = values.number-said f (head_lines_of f) Nsuppvars (omega arith) (2 ^ 32) (λ v l. last-each l each_line);
    nroots_said = values.number-said f (head_lines_of f) Nroots (omega arith) (2 ^ 64) (λ v l. last-each l each_line);
    next_said = sound.nodes_there;
    lines_said = sound.counted;
  }

  -- so are its lists, by the rules of the header as a whole
  pub lists-said : {m : Limits} → WholeRules m f (table_of f) → (a : HeaderAnswer)
      → let r = lists_in f (table_of f) a in
      ListsSaid f (header_in f (table_of f) next lines) r.ids r.order r.permids r.auxids r.names r.rootnames r.roots
  unfolding table_of variable_names_in
  lists-said W a = record {
    ids_said = values.numbers-said f (head_lines_of f) Ids (omega arith) (λ v l. last-each l each_line);
    permids_said = values.numbers-said f (head_lines_of f) Permids (omega arith) (λ v l. last-each l each_line);
    auxids_said = values.numbers-said f (head_lines_of f) Auxids (omega arith) (λ v l. last-each l each_line);
    roots_said = values.roots_said f (head_lines_of f) each_line;
    rootnames_said = values.names_said f (head_lines_of f) Rootnames (omega arith) root_limit (λ v l. last-each l each_line);
    order_said = support-arranged _ _ _ W.permids (W.ids_counted ∙ sym W.permids_counted);
    varnames = varnames_in f (table_of f);
    orderedvarnames = orderedvarnames_in f (table_of f);
    suppvarnames = suppvarnames_in f (table_of f);
    varnames_said = values.names_said f (head_lines_of f) Varnames (omega arith) var_limit (λ v l. last-each l each_line);
    orderedvarnames_said = values.names_said f (head_lines_of f) Orderedvarnames (omega arith) var_limit (λ v l. last-each l each_line);
    suppvarnames_said = values.names_said f (head_lines_of f) Suppvarnames (omega arith) var_limit (λ v l. last-each l each_line);
    names_said = names_said _ _ _ W.ids W.permids (W.ids_counted ∙ sym W.permids_counted) _ _ _;
  }

  -- and they say no other header
  pub one-said : (h : Header) → HeaderSaid f h → h ≡ header_in f (table_of f) next lines
  unfolding table_of
  one-said h w =
      let ascii = values.said-mode f (head_lines_of f) _ w.mode_said in
      let varinfo = values.said-varinfo f (head_lines_of f) _ w.varinfo_said in
      let dd = values.said-text f (head_lines_of f) _ w.dd_said in
      let nnodes = values.said-number f (head_lines_of f) Nnodes (omega arith) (2 ^ 64) _ w.nnodes_said in
      let nvars = values.said-number f (head_lines_of f) Nvars (omega arith) (2 ^ 32) _ w.nvars_said in
      let nsuppvars = values.said-number f (head_lines_of f) Nsuppvars (omega arith) (2 ^ 32) _ w.nsuppvars_said in
      let nroots = values.said-number f (head_lines_of f) Nroots (omega arith) (2 ^ 64) _ w.nroots_said in
      let at : h.next ≡ next = some-injective h.next next (sym w.next_said ∙ sound.nodes_there) in
      let count : h.lines ≡ lines = w.lines_said ∙ sym sound.counted in
      rw (sym ascii, sym varinfo, sym dd, sym nnodes, sym nvars, sym nsuppvars, sym nroots, sym at, sym count)
