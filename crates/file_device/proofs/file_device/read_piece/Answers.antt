use Rattle.std.proofs.Common.{◌∙◌}
use Rattle.file_device.proofs.Pieces.{piece_read, piece_shown}
use Rattle.file_device.proofs.file_device.read_piece.Goals as goal

pub returns-in-Ok-extend_from_slice-clause-read : goal.returns-in-Ok-extend_from_slice-clause-read
returns-in-Ok-extend_from_slice-clause-read c = piece_read c.args.first _ c.read.new.room c.args.file.now.made.calls c.read.new.self.made.calls c.in-Ok.ensures.noted c.read.ensures.length

pub returns-in-Ok-extend_from_slice-clause-shown : goal.returns-in-Ok-extend_from_slice-clause-shown
returns-in-Ok-extend_from_slice-clause-shown c =
    piece_shown c.args.first c.read.new.room c.args.view.now.items _ c.args.file.now.made.calls c.read.new.self.made.calls c.in-Ok.ensures.noted c.requires.shown c.in-Ok-extend_from_slice.ensures.items
