mod GoingLaws
mod RunLaws
mod StartLaws
mod TurningLaws
