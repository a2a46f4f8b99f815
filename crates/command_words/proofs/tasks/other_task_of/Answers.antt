use Rattle.std.proofs.Common.{codes}
use Rattle.clap.specs.Words.{found_of, rows_of}
use Rattle.command_words.proofs.TaskLemmas.{named}
use Rattle.command_words.proofs.tasks.other_task_of.Goals as goal

pub returns-in-format : goal.returns-in-format
returns-in-format c =
    λ other. named c.args.name.now (codes "format") (rows_of (found_of c.args.matches.now)) c.format_task.result c.in-format.is c.format_task.ensures

pub returns-in-init : goal.returns-in-init
returns-in-init c =
    λ other. named c.args.name.now (codes "init") (rows_of (found_of c.args.matches.now)) c.init_task.result c.in-init.is c.init_task.ensures

pub returns-in-apply : goal.returns-in-apply
returns-in-apply c =
    λ other. named c.args.name.now (codes "apply") (rows_of (found_of c.args.matches.now)) c.apply_task.result c.in-apply.is c.apply_task.ensures

pub returns-in-get : goal.returns-in-get
returns-in-get c =
    λ other. named c.args.name.now (codes "get") (rows_of (found_of c.args.matches.now)) c.get_task.result c.in-get.is c.get_task.ensures

pub returns-in-posts : goal.returns-in-posts
returns-in-posts c =
    λ other. named c.args.name.now (codes "posts") (rows_of (found_of c.args.matches.now)) c.posts_task.result c.in-posts.is c.posts_task.ensures

pub returns-in-show : goal.returns-in-show
returns-in-show c =
    λ other. named c.args.name.now (codes "show") (rows_of (found_of c.args.matches.now)) c.show_task.result c.in-show.is c.show_task.ensures

pub returns-in-export : goal.returns-in-export
returns-in-export c =
    λ other. named c.args.name.now (codes "export") (rows_of (found_of c.args.matches.now)) c.export_task.result c.in-export.is c.export_task.ensures

pub returns-in-import : goal.returns-in-import
returns-in-import c =
    λ other. named c.args.name.now (codes "import") (rows_of (found_of c.args.matches.now)) c.import_task.result c.in-import.is c.import_task.ensures

pub returns-in-check : goal.returns-in-check
returns-in-check c =
    λ other. named c.args.name.now (codes "check") (rows_of (found_of c.args.matches.now)) c.check_task.result c.in-check.is c.check_task.ensures

pub returns-in-compact : goal.returns-in-compact
returns-in-compact c =
    λ other. named c.args.name.now (codes "compact") (rows_of (found_of c.args.matches.now)) c.compact_task.result c.in-compact.is c.compact_task.ensures

pub returns-in-upgrade : goal.returns-in-upgrade
returns-in-upgrade c =
    λ other. named c.args.name.now (codes "upgrade") (rows_of (found_of c.args.matches.now)) c.upgrade_task.result c.in-upgrade.is c.upgrade_task.ensures

pub returns-in-copy : goal.returns-in-copy
returns-in-copy c =
    λ other. named c.args.name.now (codes "copy") (rows_of (found_of c.args.matches.now)) c.copy_task.result c.in-copy.is c.copy_task.ensures

pub returns-in-replay : goal.returns-in-replay
returns-in-replay c =
    λ other. named c.args.name.now (codes "replay") (rows_of (found_of c.args.matches.now)) c.replay_task.result c.in-replay.is c.replay_task.ensures

pub returns-in-serve : goal.returns-in-serve
returns-in-serve c =
    λ other. named c.args.name.now (codes "serve") (rows_of (found_of c.args.matches.now)) c.serve_task.result c.in-serve.is c.serve_task.ensures
