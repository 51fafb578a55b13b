-- What `Tick` of the crate lists, the type of a time's number, is to the logic.
use mir.Syntax.{Width, w32}
use denote.RattleType.{RattleType}
use denote.Builtin.{u32}

abbrev pub tick_width : Width
tick_width = w32

abbrev pub tick : RattleType
tick = u32
