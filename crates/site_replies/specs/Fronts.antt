-- What the lines of menus show: nothing of an item that has expired.
use Rattle.std.specs.Prelude.{ℕ, Option, Some, None, if◌then◌else◌}
use Rattle.host_types.specs.Visible.{is_over}
use Rattle.host_types.specs.declared.front.CardFront.{CardFront}

-- what the line of a menu says of what stands there, unless it has expired
abbrev pub front_unless_expired : Option CardFront → ℕ → Option CardFront
front_unless_expired None now = None
front_unless_expired (Some front) now = if is_over front.until now then None else Some front
