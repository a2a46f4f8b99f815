use Rattle.daily_server.proofs.serving.tell_off.Goals as goal

pub returns : goal.returns
returns g c = c.write_line.ensures _ c.away_line.ensures
