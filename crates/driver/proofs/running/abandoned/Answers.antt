use Rattle.driver.proofs.Runs.{runs_from}
use Rattle.driver.proofs.running.abandoned.Goals as goal

pub returns-in-Some : goal.returns-in-Some
returns-in-Some g c =
    let led = c.in-Some.ensures.led in
    λ start is. (
      led.1,
      led.2,
      runs_from g.D.Device g.L.Origin.start led.0 c.in-Some.machine led.1 led.2 c.into_device.result
          c.ran_since_start.ensures c.into_device.ensures led.3 led.4 start is,
    )
