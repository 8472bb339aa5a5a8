-- Not document 01's sentences: the tags as the code names them. The rule is `tag_of` of Codec.
use Rattle.std.specs.Prelude.{ℕ}
use Rattle.format.specs.declared.tag.Tag.{Tag}
use Rattle.format.specs.declared.tag.Tag.TheVariants.{HostTime, Read, Write, Advance, Deadline, Skip, Source}
use Rattle.format.specs.declared.tag.Tag.TheVariants.{ControllerRead, ControllerWrite, Output}

-- 'Tags are hexadecimal.'
abbrev pub tag_number : Tag → ℕ
tag_number HostTime = 0x01
tag_number Read = 0x02
tag_number Write = 0x03
tag_number Advance = 0x04
tag_number Deadline = 0x05
tag_number Skip = 0x06
tag_number Source = 0x07
tag_number ControllerRead = 0x08
tag_number ControllerWrite = 0x09
tag_number Output = 0x0A
