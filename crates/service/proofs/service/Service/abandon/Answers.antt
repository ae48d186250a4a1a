use Rattle.service.proofs.Starts.{led_to}
use Rattle.service.proofs.service.Service.abandon.Goals as goal

pub returns-clause-led : goal.returns-clause-led
returns-clause-led g c = led_to g.D.Device g.L.Origin.start g.L.Origin.all g.L.Origin.capacity _ c.ended.result.0
    c.ended.ensures.machine c.ended.ensures.serves
