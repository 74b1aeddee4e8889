mod Permits
