-- The header of document 01's example.
use Rattle.std.specs.Prelude.{ℕ, List, [], ◌∷◌, true, false, pos, negsuc}
use Rattle.codes.specs.Texts.{bytes}
use Rattle.codes.specs.declared.DDDMPVersion.TheVariants.{V2_0, V3_0}
use Rattle.heading.specs.Heading.{Heading}

abbrev pub example_heading : Heading
example_heading = record {
  version = V2_0;
  ascii = true;
  dd = [];
  nnodes = 3;
  support = 0 ∷ 1 ∷ [];
  order = 0 ∷ 1 ∷ [];
  names = bytes "gate" ∷ bytes "dock" ∷ [];
  rootids = pos 3 ∷ negsuc 2 ∷ [];
  rootnames = bytes "full" ∷ bytes "short" ∷ [];
}

abbrev pub example_head_text : List ℕ
example_head_text =
    bytes ".ver DDDMP-2.0\n.mode A\n.varinfo 4\n.nnodes 3\n.nvars 2\n.nsuppvars 2\n.suppvarnames gate dock\n.orderedvarnames gate dock\n.ids 0 1\n.permids 0 1\n.nroots 2\n.rootids 3 -3\n.rootnames full short\n.nodes\n"

-- three variables, of which the second, at the level 0, has no line; variable 0 lies at the level 2
abbrev pub other : Heading
other = record {
  version = V3_0;
  ascii = false;
  dd = bytes "night round";
  nnodes = 3;
  support = 1 ∷ 2 ∷ [];
  order = 2 ∷ 0 ∷ 1 ∷ [];
  names = bytes "gate" ∷ bytes "yard" ∷ bytes "dock" ∷ [];
  rootids = negsuc 2 ∷ [];
  rootnames = [];
}

abbrev pub other_text : List ℕ
other_text =
    bytes ".ver DDDMP-3.0\n.mode B\n.varinfo 4\n.dd night round\n.nnodes 3\n.nvars 3\n.nsuppvars 2\n.varnames gate yard dock\n.suppvarnames gate dock\n.orderedvarnames yard dock gate\n.ids 0 2\n.permids 2 1\n.nroots 1\n.rootids -3\n.nodes\n"

-- no variables: the name lines are there, and empty; no roots
abbrev pub bare_heading : Heading
bare_heading = record {
  version = V2_0;
  ascii = true;
  dd = [];
  nnodes = 0;
  support = [];
  order = [];
  names = [];
  rootids = [];
  rootnames = [];
}

abbrev pub bare_text : List ℕ
bare_text =
    bytes ".ver DDDMP-2.0\n.mode A\n.varinfo 4\n.nnodes 0\n.nvars 0\n.nsuppvars 0\n.suppvarnames\n.orderedvarnames\n.ids\n.permids\n.nroots 0\n.rootids\n.nodes\n"
