-- A header of an export, within the limits, whose numbers of nodes have seven digits at most: what bounds its length.
use Rattle.std.specs.Prelude.{ℕ, ◌^◌, ◌≤◌, ◌<◌, ◌≡◌, true, length, get_or, pos, nat_abs}
use Rattle.codes.specs.Limits.{var_limit, root_limit}
use Rattle.variable_order.specs.Order.{is_order}
use Rattle.heading.specs.Heading.{Heading}

pub record SmallHeading (h : Heading) : Type 0 where
  pub order : is_order (length h.order) h.order ≡ true
  pub few_variables : length h.order ≤ var_limit
  pub few_support : length h.support ≤ length h.order
  pub few_nodes : h.nnodes < 10 ^ 7
  pub few_roots : length h.rootids ≤ root_limit
  pub root_low : (i : ℕ) → i < length h.rootids → nat_abs (get_or h.rootids i (pos 0)) < 10 ^ 7
  pub few_rootnames : length h.rootnames ≤ length h.rootids
