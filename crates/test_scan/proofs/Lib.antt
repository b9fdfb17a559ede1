pub mod StandingRsdp
